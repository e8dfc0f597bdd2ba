-- `test_leaves::asking::put_answer_to` meets its contract. Assumes nothing.
use mathlib.Core.Path.{ap, ◌∙◌}
use Rattle.std.specs.Prelude.{Some}
use Rattle.test_leaves.proofs.Answering.{answers_word, answers_no_word}
use Rattle.test_leaves.proofs.asking.put_answer_to.Goals as goal

pub returns-in_default : goal.returns-in_default
returns-in_default c = rw (← answers_no_word _ c.asked.ensures _ _ c.in_default.is) c.put.ensures

pub returns-in-Family : goal.returns-in-Family
returns-in-Family c =
    rw (← answers_word _ c.asked.ensures _ _ (c.in-Some.is ∙ ap Some c.in-Family.is)) c.put_family.ensures

pub returns-in-Number : goal.returns-in-Number
returns-in-Number c =
    rw (← answers_word _ c.asked.ensures _ _ (c.in-Some.is ∙ ap Some c.in-Number.is), ← c.parse_c_number.ensures) c.put_value.ensures

pub returns-in-Sum : goal.returns-in-Sum
returns-in-Sum c =
    rw (← answers_word _ c.asked.ensures _ _ (c.in-Some.is ∙ ap Some c.in-Sum.is), ← c.folded.ensures) c.put_value-in-Sum.ensures

pub returns-in-Difference : goal.returns-in-Difference
returns-in-Difference c =
    rw (← answers_word _ c.asked.ensures _ _ (c.in-Some.is ∙ ap Some c.in-Difference.is), ← c.folded-in-Difference.ensures) c.put_value-in-Difference.ensures

pub returns-in-Volatile : goal.returns-in-Volatile
returns-in-Volatile c =
    rw (← answers_word _ c.asked.ensures _ _ (c.in-Some.is ∙ ap Some c.in-Volatile.is), ← c.convention.ensures, ← c.overwrites.ensures) c.put_yes_no.ensures

pub returns-in-Constant : goal.returns-in-Constant
returns-in-Constant c =
    rw (← answers_word _ c.asked.ensures _ _ (c.in-Some.is ∙ ap Some c.in-Constant.is), ← c.read_number.ensures) c.put_value-in-Constant.ensures
