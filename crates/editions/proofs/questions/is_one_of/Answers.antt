-- `editions::questions::is_one_of` meets its contract. Assumes nothing.
use Rattle.std.proofs.Common.{Bor}
use mathlib.Core.Path.{◌∙◌}
use mathlib.Core.List.{List}
use Prim.Native.Nat.{ℕ}
use Rattle.reference.specs.Text.{◌≟◌}
use Rattle.laws.proofs.Std.{list_any_of, same-std}
use Rattle.editions.proofs.questions.is_one_of.Goals as goal

pub returns : goal.returns
returns c = c.contains.ensures.value ∙ list_any_of _ (λ (b : Bor (List ℕ)). b.now ≟ c.args.s.now) (λ b. same-std b.now c.args.s.now) c.args.words.now
