-- `test_leaves::asking::put_yes_no` meets its contract. Assumes nothing.
use Rattle.test_leaves.proofs.Answering.{says-yes, says_no}
use Rattle.test_leaves.proofs.asking.put_yes_no.Goals as goal

pub returns-then-b : goal.returns-then-b
returns-then-b c =
    rw (← says-yes c.if-b.true) c.put.ensures

pub returns-else-b : goal.returns-else-b
returns-else-b c =
    rw (← says_no c.if-b.false) c.put-else-b.ensures
