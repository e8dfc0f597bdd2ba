-- `usefacts::widths::is_below` meets its contract. Assumes nothing.
use borrow.Author.Rules.{rules}
use lib.Dec.{ltb}
use Rattle.usefacts.proofs.Widening.{passes_some}
use Rattle.usefacts.proofs.widths.is_below.Goals as goal

pub returns-in-Some : goal.returns-in-Some
returns-in-Some c = passes_some (λ x. ltb x 64) _ _ _ c.token_width.ensures (search rules)
