-- `tape::questions::ask` meets its contract. Assumes nothing.
use mathlib.Core.Path.{◌∙◌}
use mathlib.Core.Logic.{inl, inr}
use Rattle.tape.specs.Questions.{totals_of}
use Rattle.tape.proofs.questions.Asking.{line_asked, marks_fit, marks_misplaced, text_asked, end_over, end_follows}
use Rattle.tape.proofs.questions.ask.Goals as goal

pub returns-in-Addressed : goal.returns-in-Addressed
returns-in-Addressed c =
    elim c.in-Addressed.is [ inl p ↦ rw p.1 (c.ask_line.ensures ∙ line_asked _ _ _ _ _) | inr p ↦ rw p (c.ask_line.ensures ∙ line_asked _ _ _ _ _) ]

pub returns-then-marks_follow : goal.returns-then-marks_follow
returns-then-marks_follow c = rw c.in-Marked.is (marks_fit _ _ _ _ c.marks_follow.ensures c.if-marks_follow.true)

pub returns-else-marks_follow : goal.returns-else-marks_follow
returns-else-marks_follow c = rw (c.in-Marked.is, c.at.ensures) (marks_misplaced _ _ _ _ c.marks_follow.ensures c.if-marks_follow.false)

pub returns-in-Token : goal.returns-in-Token
returns-in-Token c = let a = c.args in
    rw c.in-Token.is (c.ask_token.ensures ∙ text_asked a.reader.tape.now a.reader.at (totals_of a.totals) c.in-Token.kind c.in-Token.count c.token.ensures)

pub returns-then-reader-at-eq1 : goal.returns-then-reader-at-eq1
returns-then-reader-at-eq1 c = let a = c.args in
    rw c.in-End.is (end_over a.reader.tape.now a.reader.at (totals_of a.totals) c.if-reader-at-eq1.true)

pub returns-else-reader-at-eq1 : goal.returns-else-reader-at-eq1
returns-else-reader-at-eq1 c = let a = c.args in
    let e = c.in-End.is in
    let p = rw e at c.requires in
    rw (e, c.at-else-reader-at-eq1.ensures) (end_follows a.reader.tape.now a.reader.at (totals_of a.totals) p c.if-reader-at-eq1.false)
