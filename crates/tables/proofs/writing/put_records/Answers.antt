-- `tables::writing::put_records` meets its contract. Assumes nothing.
use Rattle.tape.proofs.walk.Loops.{coming_begins}
use Rattle.tables.specs.Records.{blank}
use Rattle.tables.specs.Writing.{whole_line, lines_bytes, marked_of, recorded}
use Rattle.tables.proofs.writing.Putting.{next_room, put_more, put_all}
use Rattle.tables.proofs.writing.put_records.Goals as goal

pub loop-line-init : goal.loop-line-init
loop-line-init c = let t = c.args.texts.now in
    coming_begins (lines_bytes (recorded t.tape.now t.area.now c.args.tokens.now c.args.records.now)) c.requires.room

pub put_whole_line-requires : goal.put_whole_line-requires
put_whole_line-requires c = let l = c.loop-line in
    let t = c.args.texts.now in (
      c.requires.sound l.line-index c.loop-line-test.true,
      next_room (marked_of t.tape.now t.area.now c.args.tokens.now) whole_line c.args.records.now l.invariant blank c.loop-line-test.true,
    )

pub loop-line-preserved : goal.loop-line-preserved
loop-line-preserved c = let t = c.args.texts.now in
    put_more (marked_of t.tape.now t.area.now c.args.tokens.now) whole_line c.args.records.now c.loop-line.invariant blank c.loop-line-test.true
    c.put_whole_line.ensures

pub returns : goal.returns
returns c = let t = c.args.texts.now in
    put_all (marked_of t.tape.now t.area.now c.args.tokens.now) whole_line c.args.records.now c.loop-line.invariant c.loop-line-test.false
