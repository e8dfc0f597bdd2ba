-- `build::builder::Builder::keep_tokens` meets its contract. Assumes nothing.
use Rattle.build.proofs.LineAdding.{line_added_kept, line_added_next, room_next}
use Rattle.build.proofs.Lending.{lent_then}
use Rattle.build.proofs.builder.Builder.keep_tokens.Goals as goal

pub keep-requires : goal.keep-requires
keep-requires c =
    let l = c.loop-w in
    let i = l.invariant in
    let p = c.requires.0.at l.w-index c.loop-w-test.true in
    (p, room_next _ _ c.args.line.now l.w-index c.loop-w-test.true p i.added c.requires.1 i.lent.area_length i.lent.tokens_length)

pub loop-w-preserved : goal.loop-w-preserved
loop-w-preserved c =
    let l = c.loop-w in
    let i = l.invariant in
    let e = c.keep.ensures in
    let p = c.requires.0.at l.w-index c.loop-w-test.true in
    let r = room_next _ _ c.args.line.now l.w-index c.loop-w-test.true p i.added c.requires.1 i.lent.area_length i.lent.tokens_length in
    record {
      added = line_added_next _ _ c.args.line.now l.w-index c.loop-w-test.true p (line_added_kept i.added e.appends e.lent.area_length e.lent.tokens_length r);
      lent = lent_then i.lent e.lent;
    }
