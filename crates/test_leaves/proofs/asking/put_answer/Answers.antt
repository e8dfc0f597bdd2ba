-- `test_leaves::asking::put_answer` meets its contract. Assumes nothing.
use Rattle.std.proofs.Common.{ap, arith, rules, length}
use Rattle.text.proofs.Cursors.{at_front}
use Rattle.test_leaves.proofs.Answering.{operand_length, answers_line}
use Rattle.test_leaves.proofs.asking.put_answer.Goals as goal

pub put_answer_to-requires : goal.put_answer_to-requires
put_answer_to-requires c =
    let n = c.new-out.ensures in
    omega (arith, c.requires, n.from, ap length n.same_bytes, operand_length _ c.behind-words.ensures c.before-3.ensures)

pub returns : goal.returns
returns c =
    let n = c.new-out.ensures in
    rw (← answers_line _ c.behind-words.ensures c.before-3.ensures c.before-2.ensures c.behind.ensures c.before-4.ensures)
    (at_front c.put_answer_to.ensures n.same_bytes n.from (search rules))
