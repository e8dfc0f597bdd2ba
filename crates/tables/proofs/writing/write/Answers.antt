-- `tables::writing::write` meets its contract. Assumes nothing.
use native.Mathlib.Omega.{arith}
use mathlib.Core.Path.{sym, ap}
use lib.ListN.{length}
use borrow.Author.Rules.{rules}
use Rattle.lines.specs.Marks.{highs_of, lows_of}
use Rattle.text.proofs.Cursors.{then_puts, puts_as, room_left, at_front}
use Rattle.tables.proofs.writing.Putting.{write-split, write-room, wrote}
use Rattle.tables.proofs.writing.write.Goals as goal

pub put_lines-requires : goal.put_lines-requires
put_lines-requires c = let g = c.args.listing.now in
    let room = write-room g.texts.tape.now g.texts.area.now g.tokens.now c.args.addresses.now (lows_of c.args.marks.now) (highs_of c.args.marks.now) g.lines.now c.requires.lines_in_bounds in
    let b = c.requires.in_bounds in
    (c.requires.listed.0, c.requires.listed.1, b.0, b.1, b.2, omega (arith, room, ap length c.new-out.ensures.same_bytes, c.new-out.ensures.from))

pub put_end-requires : goal.put_end-requires
put_end-requires c = let g = c.args.listing.now in
    let room = write-room g.texts.tape.now g.texts.area.now g.tokens.now c.args.addresses.now (lows_of c.args.marks.now) (highs_of c.args.marks.now) g.lines.now c.requires.lines_in_bounds in
    room_left c.put_lines.ensures 1 (omega (arith, room, ap length c.new-out.ensures.same_bytes, c.new-out.ensures.from))

pub returns : goal.returns
returns c = let g = c.args.listing.now in
    let split = write-split g.texts.tape.now g.texts.area.now g.tokens.now c.args.addresses.now (lows_of c.args.marks.now) (highs_of c.args.marks.now) g.lines.now in
    let all = then_puts c.put_lines.ensures (omega (arith, c.new-out.ensures.from)) c.put_end.ensures in
    wrote (at_front (puts_as all (sym split)) c.new-out.ensures.same_bytes c.new-out.ensures.from (search rules))
