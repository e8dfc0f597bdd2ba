-- `test_leaves::asking::put_value` meets its contract. Assumes nothing.
use Rattle.std.proofs.Common.{rules}
use Rattle.numbers.proofs.Signed.{read_back}
use Rattle.test_leaves.proofs.Answering.{value_read, value_unread}
use Rattle.test_leaves.proofs.asking.put_value.Goals as goal

pub returns-in-Some : goal.returns-in-Some
returns-in-Some c =
    let v = c.in-Some in
    rw (← value_read v.is (read_back v.v (search rules))) c.put_number.ensures

pub returns-in-None : goal.returns-in-None
returns-in-None c = rw (← value_unread c.in-None.is) c.put.ensures
