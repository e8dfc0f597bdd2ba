-- `flow::forms::with_signs_of` meets its contract. Assumes nothing.
use native.Mathlib.Omega.{arith}
use mathlib.Core.Path.{◌∙◌}
use Rattle.flow.proofs.Spelled.{further, sign_more, sign_end, short_more}
use Rattle.flow.proofs.forms.with_signs_of.Goals as goal

pub loop-b-preserved : goal.loop-b-preserved
loop-b-preserved c =
    let l = c.loop-b in (
      λ more. further _ _ _ _ c.with_sign-g.ensures.is (sign_more c.args.s.now l.b-index c.loop-b-test.true) more ∙ l.invariant.0 more,
      λ n b. short_more _ (c.with_sign-g.ensures.few _ (l.invariant.1 n b)) (omega arith),
    )

pub returns-clause-is : goal.returns-clause-is
returns-clause-is c =
    let l = c.loop-b in
    λ more. rw (sign_end c.args.s.now l.b-index c.loop-b-test.false) at (l.invariant.0 more)
