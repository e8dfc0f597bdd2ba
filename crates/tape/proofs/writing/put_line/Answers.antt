-- `tape::writing::put_line` meets its contract. Assumes nothing.
use Prim.Native.Nat.{ℕ}
use native.Mathlib.Omega.{arith}
use mathlib.Core.Path.{ap}
use lib.ListN.{length}
use Rattle.std.specs.Prelude as std
use Rattle.text.specs.Cursor.{Puts}
use Rattle.text.proofs.Cursors.{then_puts, puts_as, room_left}
use Rattle.reference.specs.Tape.{width}
use Rattle.reference.proofs.LittleEndian.{to_length}
use Rattle.tape.specs.Commands.{form_of}
use Rattle.tape.proofs.writing.Putting.{line_front, line_text, line_size}
use Rattle.tape.specs.contracts.writing.put_line as code
use denote.Param.{number}
use Rattle.tape.proofs.writing.put_line.Goals.{in-Some, in-None}
use Rattle.tape.proofs.writing.put_line.Goals as goal

pub put_byte-requires : goal.put_byte-requires
put_byte-requires g c = let form = form_of (code.BASED-type (number g.row.BASED)) in
    omega (arith, c.requires.1, line_size form c.args.address c.args.indent c.requires.0)

pub put_le-requires : goal.put_le-requires
put_le-requires g c = let form = form_of (code.BASED-type (number g.row.BASED)) in
    let front = ap (λ (o : std.Option ℕ). length (line_front form o)) c.in-Some.is in
    room_left c.put_byte.ensures _
    (omega (arith, c.requires.1, line_size form c.args.address c.args.indent c.requires.0, front, to_length (width form) c.in-Some.address, c.width_of.ensures.0))

pub put_byte-requires-in-None : goal.put_byte-requires-in-None
put_byte-requires-in-None g c = let form = form_of (code.BASED-type (number g.row.BASED)) in
    omega (arith, c.requires.1, line_size form c.args.address c.args.indent c.requires.0)

-- what both branches put
pub put_le-requires-2 : goal.put_le-requires-2
put_le-requires-2 g c = let form = form_of (code.BASED-type (number g.row.BASED)) in
    let begun : Puts c.args.out.now (line_front form c.args.address) c.match-address.out
    = elim c.match-address.branch [
      | in-Some w ↦ rw (w.in-Some.is, w.out-is, ← w.width_of.ensures.0, ← w.line_byte.ensures) (then_puts w.put_byte.ensures (omega (arith, c.requires.1)) w.put_le.ensures)
      | in-None w ↦ rw (w.in-None.is, w.out-is) w.put_byte-in-None.ensures
    ] in
    room_left begun 1 (omega (arith, c.requires.1, line_size form c.args.address c.args.indent c.requires.0))

pub returns : goal.returns
returns g c = let form = form_of (code.BASED-type (number g.row.BASED)) in
    let begun : Puts c.args.out.now (line_front form c.args.address) c.match-address.out
    = elim c.match-address.branch [
      | in-Some w ↦ rw (w.in-Some.is, w.out-is, ← w.width_of.ensures.0, ← w.line_byte.ensures) (then_puts w.put_byte.ensures (omega (arith, c.requires.1)) w.put_le.ensures)
      | in-None w ↦ rw (w.in-None.is, w.out-is) w.put_byte-in-None.ensures
    ] in
    puts_as (then_puts begun (omega (arith, c.requires.1)) c.put_le-2.ensures) (line_text form c.args.address c.args.indent c.requires.0)
