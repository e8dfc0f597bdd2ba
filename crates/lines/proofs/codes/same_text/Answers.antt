-- `lines::codes::same_text` meets its contract. Assumes nothing.
use Rattle.lines.proofs.codes.Coding.{says, codes_differ}
use Rattle.lines.proofs.codes.same_text.Goals as goal

pub returns-then-a-b : goal.returns-then-a-b
returns-then-a-b c =
    let a = c.args in let s = c.in-Some-Some in
    codes_differ (says _ _ a.v c.requires.0 c.code.ensures s.is-0) (says _ _ a.w c.requires.1 c.code-2.ensures s.is-1) c.if-a-b.true
