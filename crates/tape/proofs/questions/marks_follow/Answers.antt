-- `tape::questions::marks_follow` meets its contract. Assumes nothing.
use Rattle.reference.specs.Control.{◌and◌}
use Rattle.reference.specs.Questions.{has_line}
use Rattle.tape.proofs.questions.marks_follow.Goals as goal

pub returns-then-totals : goal.returns-then-totals
unfolding has_line ◌and◌
returns-then-totals c = rw c.if-totals.true

pub returns-else-totals : goal.returns-else-totals
unfolding has_line ◌and◌
returns-else-totals c = rw c.if-totals.false
