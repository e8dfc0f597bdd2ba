-- `build::builder::Builder::merge` meets its contract. Assumes nothing.
use Prim.Native.Nat.{◌+◌}
use lib.ListN.{drop}
use lib.Seq.{take_all}
use Rattle.build.specs.Substitution.{substituted}
use Rattle.build.proofs.Pushes.{pushed_then, ready_then}
use Rattle.build.proofs.Substituting.{substituted-split, substituted_more, merge_begin, line_added_merged}
use Rattle.build.proofs.Lending.{lent_same, lent_then}
use Rattle.build.proofs.builder.Builder.merge.Goals as goal

pub loop-w-init : goal.loop-w-init
loop-w-init c =
    let a = c.args in
    record { pushed = merge_begin _ _ a.source.now a.s a.line.now c.requires.2; lent = lent_same }

pub push_used-requires : goal.push_used-requires
push_used-requires c =
    let a = c.args in
    let l = c.loop-w in
    let i = l.invariant in
    let p = c.requires in (
      p.0,
      p.1.at l.w-index c.loop-w-test.true,
      ready_then i.pushed _ (substituted _ _ a.source.now a.s (drop (l.w-index + 1) a.line.now)) p.2
          (substituted-split _ _ a.source.now a.s a.line.now l.w-index c.loop-w-test.true) i.lent.area_length i.lent.tokens_length,
    )

pub loop-w-preserved : goal.loop-w-preserved
loop-w-preserved c =
    let a = c.args in
    let l = c.loop-w in
    let i = l.invariant in
    let e = c.push_used.ensures in
    record {
      pushed = rw (substituted_more _ _ a.source.now a.s a.line.now l.w-index c.loop-w-test.true) (pushed_then i.pushed e.pushed);
      lent = lent_then i.lent e.lent;
    }

pub returns-clause-added : goal.returns-clause-added
returns-clause-added c = line_added_merged (rw (take_all c.loop-w.w-index c.args.line.now c.loop-w-test.false) at c.loop-w.invariant.pushed)
