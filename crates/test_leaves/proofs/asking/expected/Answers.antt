-- `test_leaves::asking::expected` meets its contract. Assumes nothing.
use Rattle.test_leaves.proofs.Answering.{expects-second, expects-third}
use Rattle.test_leaves.proofs.asking.expected.Goals as goal

pub returns-then-asks_one_operand : goal.returns-then-asks_one_operand
returns-then-asks_one_operand c =
    expects-second _ c.before-question.ensures c.behind.ensures c.behind-answer.ensures c.asks_one_operand.ensures c.if-asks_one_operand.true

pub returns-else-asks_one_operand : goal.returns-else-asks_one_operand
returns-else-asks_one_operand c =
    expects-third _ c.before-question.ensures c.behind.ensures c.behind-answer.ensures c.asks_one_operand.ensures c.if-asks_one_operand.false c.behind-else-asks_one_operand.ensures
