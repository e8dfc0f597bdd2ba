-- `tape::questions::check` meets its contract: the reading comes to the loop's offset with its totals. Assumes nothing.
use native.Mathlib.Omega.{arith}
use mathlib.Core.Path.{ap, ◌∙◌}
use lib.ListN.{length}
use Rattle.std.proofs.lemmas.Result.{err_from_is_err_and}
use Rattle.reference.specs.Questions.{Passed}
use Rattle.tape.proofs.questions.Reading.{reads_begin, read_refused, moves, reads_on, read_ended, sizes_are, verdict_refused, verdict_passed}
use Rattle.tape.proofs.questions.check.Goals as goal

pub loop-step-init : goal.loop-step-init
loop-step-init g c = let m = c.moved-reader.ensures in
    (ap (λ b. b.now) (m.0 ∙ c.new.ensures.0), rw (m.1, c.header_of.ensures) (reads_begin _ c.moved-reader.result.tape.now))

pub returns-in_err-step : goal.returns-in_err-step
returns-in_err-step g c = let i = c.loop-step.invariant in
    let p = err_from_is_err_and c.from_residual.result c.from_residual.ensures.1 in
    rw (p.1, p.2) (rw i.0 at (verdict_refused _ c.loop-step.reader.tape.now (read_refused i.1 c.in_err-step.ensures)))

pub loop-step-smaller : goal.loop-step-smaller
loop-step-smaller g c = let i = c.loop-step.invariant in
    let r = rw c.in-Some.is at c.in_ok-step.ensures in
    omega (arith, moves i.1 r.passes, ap length i.0, c.moved-reader-in-Some.ensures.1)

pub loop-step-preserved : goal.loop-step-preserved
loop-step-preserved g c = let i = c.loop-step.invariant in
    let r = rw c.in-Some.is at c.in_ok-step.ensures in
    let m = c.moved-reader-in-Some.ensures in
    (ap (λ b. b.now) m.0 ∙ i.0, rw (m.0, m.1) (reads_on i.1 r.passes r.ends))

pub returns : goal.returns
returns g c = let i = c.loop-step.invariant in
    let r = rw c.in_default.is at c.in_ok-step.ensures in
    rw i.0 at (ap Passed (sizes_are i.1) ∙ verdict_passed _ c.loop-step.reader.tape.now (read_ended i.1 r))
