-- `usefacts::widths::common` meets its contract. Assumes nothing.
use borrow.Author.Rules.{rules}
use Rattle.usefacts.proofs.Widening.{common_apart, common_one}
use Rattle.usefacts.proofs.widths.common.Goals as goal

pub returns-then-has_other : goal.returns-then-has_other
returns-then-has_other c = common_apart _ c.first_width.ensures (search rules) c.has_other.ensures (search rules)

pub returns : goal.returns
returns c = common_one _ c.first_width.ensures (search rules) c.has_other.ensures (search rules)
