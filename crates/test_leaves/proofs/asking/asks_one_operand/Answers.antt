-- `test_leaves::asking::asks_one_operand` meets its contract. Assumes nothing.
use mathlib.Core.Path.{◌∙◌}
use Rattle.test_leaves.proofs.Answering.{operands_word, operands_no_word}
use Rattle.test_leaves.proofs.asking.asks_one_operand.Goals as goal

pub returns-in-Some : goal.returns-in-Some
returns-in-Some c = c.has_one_operand.ensures ∙ operands_word _ c.asked.ensures c.in-Some.is

pub returns-in-None : goal.returns-in-None
returns-in-None c = operands_no_word _ c.asked.ensures c.in-None.is
