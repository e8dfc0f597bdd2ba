-- `tape::writing::put_marks` meets its contract. Assumes nothing.
use native.Mathlib.Omega.{arith}
use Rattle.text.proofs.Cursors.{then_puts, puts_as, room_left}
use Rattle.reference.proofs.LittleEndian.{to_length}
use Rattle.tape.specs.Commands.{form_of}
use Rattle.tape.proofs.writing.Putting.{marked_text, marked_size}
use Rattle.tape.specs.contracts.writing.put_marks as code
use denote.Param.{number}
use Rattle.tape.proofs.writing.put_marks.Goals as goal

pub put_byte-requires : goal.put_byte-requires
put_byte-requires g c = let form = form_of (code.BASED-type (number g.row.BASED)) in
    let size = marked_size form (record { lowest = c.args.low; highest = c.args.high }) in
    omega (arith, c.requires, size)

pub put_le-requires : goal.put_le-requires
put_le-requires g c = let form = form_of (code.BASED-type (number g.row.BASED)) in
    let size = marked_size form (record { lowest = c.args.low; highest = c.args.high }) in
    room_left c.put_byte.ensures _ (omega (arith, c.requires, size, c.width_of-w.ensures.0))

pub put_le-requires-2 : goal.put_le-requires-2
put_le-requires-2 g c = let form = form_of (code.BASED-type (number g.row.BASED)) in
    let size = marked_size form (record { lowest = c.args.low; highest = c.args.high }) in
    let begun = then_puts c.put_byte.ensures (omega (arith, c.requires)) c.put_le.ensures in
    room_left begun _ (omega (arith, c.requires, size, c.width_of-w.ensures.0, to_length c.width_of-w.result c.args.low))

pub returns : goal.returns
returns g c = let form = form_of (code.BASED-type (number g.row.BASED)) in
    let begun = then_puts c.put_byte.ensures (omega (arith, c.requires)) c.put_le.ensures in
    let all = then_puts begun (omega (arith, c.requires)) c.put_le-2.ensures in
    puts_as (rw (c.width_of-w.ensures.0, c.marks_byte.ensures) at all) (marked_text form c.args.low c.args.high)
