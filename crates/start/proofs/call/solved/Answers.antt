-- `start::call::solved` meets its contract. Assumes nothing.
use mathlib.Core.Path.{ap, ◌∙◌}
use mathlib.Core.Bool.{not as flip}
use Rattle.answers.specs.Answers.{answer_of}
use Rattle.start.proofs.Asking.{unknown_chosen, unknown_list, uncut, asked_names, solved_as}
use Rattle.start.proofs.call.solved.Goals as goal
use Rattle.start.proofs.call.solved.Goals.{then-not-is_register-via-then-not-is_register, then-not-is_register-via-else-not-is_register+then-not-are_known}

pub returns-then-not-is_register : goal.returns-then-not-is_register
returns-then-not-is_register c = λ reading. rw c.at.ensures (
    elim c.then-not-is_register.branch [
      | then-not-is_register-via-then-not-is_register w ↦
          unknown_chosen _ _ _ c.is_register.ensures (ap flip w.if-not-is_register.true) _
      | then-not-is_register-via-else-not-is_register+then-not-are_known w ↦
          unknown_list _ _ _ c.is_register.ensures (ap flip w.if-not-is_register.false) w.are_known.ensures (ap flip w.if-not-are_known.true) _
    ])

pub reckon-p-requires : goal.reckon-p-requires
reckon-p-requires c =
    (c.requires.0, c.requires.1, uncut _ _ 0 c.is_register.ensures (ap flip c.if-not-is_register.false) c.are_known.ensures (ap flip c.if-not-are_known.false))

pub returns : goal.returns
returns c = λ reading.
    (ap answer_of c.ok_or.ensures.value
    ∙ solved_as c.solve_sum.result c.at-2.ensures
    ∙ asked_names _ _ _ c.is_register.ensures (ap flip c.if-not-is_register.false) c.are_known.ensures (ap flip c.if-not-are_known.false) _ _ _
    (c.reckon-p.ensures reading) c.solve_sum.result c.solve_sum.ensures)
