-- `test_replay::calls::all_right` meets its contract. Assumes nothing.
use Rattle.laws.proofs.Scans.{tests}
use borrow.Author.Rules.{rules}
use Rattle.test_replay.proofs.calls.all_right.Goals as goal

pub returns-then-part_right-2 : goal.returns-then-part_right-2
returns-then-part_right-2 c = search (rules, tests) depth 8

pub returns-else-part_right-2 : goal.returns-else-part_right-2
returns-else-part_right-2 c = search (rules, tests) depth 8

pub returns-else-part_right : goal.returns-else-part_right
returns-else-part_right c = search (rules, tests) depth 8

pub returns-else-reply_right : goal.returns-else-reply_right
returns-else-reply_right c = search (rules, tests) depth 8
