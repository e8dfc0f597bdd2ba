-- `raising::noting::note` meets its contract. Assumes nothing.
use native.Mathlib.Omega.{arith}
use mathlib.Core.Path.{refl, sym, ◌∙◌}
use lib.ListN.{length-set}
use Rattle.flow.proofs.Tables.{lines_long}
use Rattle.ground.specs.Rules.{rules_of}
use Rattle.raising.specs.Noting.{fam_of, lines_of, plan_of}
use Rattle.raising.proofs.Told.{noting_begun, noting_more, noted_all}
use Rattle.laws.proofs.Scans.{or_true, or_false}
use Rattle.raising.proofs.noting.note.Goals as goal
use Rattle.raising.proofs.noting.note.Goals.{then-passed, else-passed}

pub loop-k-init : goal.loop-k-init
loop-k-init c = let n = c.args.n.now in record {
  noting = noting_begun (rules_of n.rules) (lines_of n) n.plan.line (plan_of n) (fam_of n) c.args.parts.now c.requires.1;
  long = refl;
}

pub overflow_step-k : goal.overflow_step-k
overflow_step-k c = omega (arith, c.requires.0.inside, c.requires.0.tabled.short)

pub loop-k-preserved : goal.loop-k-preserved
loop-k-preserved c =
    let n = c.args.n.now in
    let l = c.loop-k in
    let i = l.invariant in
    let long = lines_long n.g in
    record {
      noting = noting_more (rules_of n.rules) (lines_of n) n.plan.line (plan_of n) (fam_of n) l.k l.passed l.parts (omega (arith, i.long, c.loop-k-test.true, c.requires.2, c.requires.3))
          (omega (arith, long, c.loop-k-test.true, c.requires.3)) (c.told_at.ensures i.noting.world_is)
          (elim c.if-passed.branch [
            | then-passed w ↦ w.passed-is ∙ w.if-passed.true ∙ sym (or_true _ w.if-passed.true)
            | else-passed w ↦ w.passed-is ∙ w.is_world_at-passed.ensures ∙ sym (or_false _ w.if-passed.false)
          ])
          i.noting;
      long = length-set l.parts l.k c.told_at.result ∙ i.long;
    }

pub returns : goal.returns
returns c = let n = c.args.n.now in
    let l = c.loop-k in noted_all (rules_of n.rules) (lines_of n) n.plan.line (plan_of n) (fam_of n) l.k l.passed l.parts (omega (arith, c.loop-k-test.false)) l.invariant.noting
