-- `plan::slots::gather_slots` meets its contract. Assumes nothing.
use Rattle.std.proofs.Common.{rules}
use Rattle.plan.proofs.Noting.{lines-room, lines_next, lines_end, slots_then}
use Rattle.plan.proofs.slots.gather_slots.Goals as goal

pub gather_line-requires : goal.gather_line-requires
gather_line-requires c =
    let g = c.args.listing.now in
    let l = c.loop-l in
    let i = l.invariant in
    let p = c.requires in
    let e = c.line_of-line.ensures in (
      rw e (p.listed.at _ c.loop-l-test.true).holds,
      i.0.slotting,
      lines-room g.texts.tape.now g.texts.area.now g.tokens.now g.lines.now l.l-index i.0 c.loop-l-test.true e
          p.slots_in_bounds.0 p.slots_in_bounds.1 p.slot_words_in_bounds i.1.text_length i.1.words_length,
    )

pub loop-l-preserved : goal.loop-l-preserved
loop-l-preserved c =
    let g = c.args.listing.now in
    let l = c.loop-l in
    let t = c.gather_line.ensures in (
      lines_next g.texts.tape.now g.texts.area.now g.tokens.now g.lines.now l.l-index l.invariant.0 c.loop-l-test.true c.line_of-line.ensures t.noted,
      slots_then l.invariant.1 t.lent,
    )

pub returns : goal.returns
returns c =
    let g = c.args.listing.now in
    let l = c.loop-l in
    lines_end g.texts.tape.now g.texts.area.now g.tokens.now g.lines.now l.l-index l.invariant.0 c.loop-l-test.false (search rules) (search rules)
