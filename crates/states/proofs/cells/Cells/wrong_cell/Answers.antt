-- `states::cells::Cells::wrong_cell` meets its contract. Assumes nothing.
use borrow.Author.Rules.{rules}
use Prim.Native.Nat.{ℕ}
use mathlib.Core.Bool.{Bool, true, false}
use mathlib.Core.Path.{◌≡◌}
use Rattle.std.proofs.lemmas.Iterator.{first_from_Range}
use Rattle.states.specs.Store.{is_wrong}
use Rattle.states.proofs.Firsts.{found_first}
use Rattle.states.proofs.cells.Cells.wrong_cell.Goals as goal

pub returns : goal.returns
returns c =
    let p : ℕ → Bool = is_wrong c.args.self.now.bytes.now in
    found_first p 8 _
    (first_from_Range _ _ _ _ (λ i. p i ≡ true) (λ i. p i ≡ false) c.find.ensures.ran (λ x q k. search rules) (λ x q k. (search rules, search rules)))
