-- `cuts::drop_results` meets its contract. Assumes nothing.
use Rattle.std.proofs.Common.{rules}
use Rattle.cuts.proofs.Cutting.{cutting_begin, cutting_kept, cutting_cut, cutting_end}
use Rattle.cuts.proofs.Cautioning.{cautioning_begin, cautioning_next, cautioning_end}
use Rattle.cuts.proofs.drop_results.Goals as goal
use Rattle.cuts.proofs.drop_results.Goals.{then-drop_at, else-drop_at}

pub loop-i-init : goal.loop-i-init
loop-i-init c = let p = c.requires in (cutting_begin p.0, cautioning_begin p.1 p.0.few)

pub drop_at-requires : goal.drop_at-requires
drop_at-requires c =
    let i = c.loop-i.invariant in
    (record { listed = i.0.listed; few = i.1.few; short = c.requires.0.short; labelled = i.0.labelled }, search rules, i.1.kept)

pub loop-i-preserved : goal.loop-i-preserved
loop-i-preserved c =
    let i = c.loop-i.invariant in
    let d = c.drop_at.ensures in (
      elim c.if-drop_at.branch [
        | then-drop_at w ↦ rw w.cut-is (cutting_cut i.0 (search rules) d.dropped w.if-drop_at.true)
        | else-drop_at w ↦ rw w.cut-is (cutting_kept i.0 (search rules) d.dropped w.if-drop_at.false)
      ],
      cautioning_next i.1 i.0 (search rules) d.dropped (search rules) d.raised d.lent,
    )

pub returns : goal.returns
returns c =
    let i = c.loop-i.invariant in
    record { cut = cutting_end i.0 (search rules); raised = cautioning_end i.1 i.0 (search rules); lent = i.1.lent }
