-- `usefacts::widths::is_other` meets its contract. Assumes nothing.
use borrow.Author.Rules.{rules}
use mathlib.Core.Path.{◌∙◌}
use lib.Dec.{eqb}
use Rattle.reference.specs.Control.{not}
use Rattle.usefacts.proofs.Widening.{passes_some, not_eqb}
use Rattle.usefacts.proofs.widths.is_other.Goals as goal

pub returns-in-Some : goal.returns-in-Some
returns-in-Some c = not_eqb _ _ ∙ passes_some (λ x. not (eqb x c.args.v)) _ _ _ c.token_width.ensures (search rules)
