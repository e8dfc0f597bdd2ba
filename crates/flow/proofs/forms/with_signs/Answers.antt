-- `flow::forms::with_signs` meets its contract. Assumes nothing.
use native.Mathlib.Omega.{arith}
use mathlib.Core.Path.{◌∙◌}
use Rattle.flow.proofs.Spelled.{further, signs_more, signs_end, short_more}
use Rattle.flow.proofs.forms.with_signs.Goals as goal

pub loop-w-preserved : goal.loop-w-preserved
loop-w-preserved c =
    let a = c.args in
    let t = a.texts.now in
    let l = c.loop-w in (
      λ more. further _ _ _ _ c.with_signs_in-g.ensures.is (signs_more t.tape.now t.area.now a.line.now l.w-index c.loop-w-test.true) more ∙ l.invariant.0 more,
      λ n b. short_more _ (c.with_signs_in-g.ensures.few _ (l.invariant.1 n b)) (omega arith),
    )

pub returns-clause-is : goal.returns-clause-is
returns-clause-is c =
    let a = c.args in
    let t = a.texts.now in
    let l = c.loop-w in
    λ more. rw (signs_end t.tape.now t.area.now a.line.now l.w-index c.loop-w-test.false) at (l.invariant.0 more)
