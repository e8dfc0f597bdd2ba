-- `states::cells::Cells::named` meets its contract. Assumes nothing.
use borrow.Author.Rules.{rules}
use Prim.Native.Nat.{ℕ}
use mathlib.Core.Bool.{Bool, true, false}
use mathlib.Core.Path.{◌≡◌}
use Rattle.std.proofs.lemmas.Iterator.{first_from_Range}
use Rattle.states.specs.Store.{holds, cell}
use Rattle.states.proofs.Firsts.{found_first}
use Rattle.states.proofs.cells.Cells.named.Goals as goal

pub returns : goal.returns
returns c =
    let p : ℕ → Bool = λ i. holds c.args.name.now (cell c.args.self.now.bytes.now i) in
    found_first p c.args.k _
    (first_from_Range _ _ _ _ (λ i. p i ≡ true) (λ i. p i ≡ false) c.find.ensures.ran (λ x q k. search rules) (λ x q k. (search rules, search rules)))
