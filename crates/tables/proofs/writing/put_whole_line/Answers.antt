-- `tables::writing::put_whole_line` meets its contract. Assumes nothing.
use Prim.Native.Nat.{◌+◌, ◌-◌}
use native.Mathlib.Omega.{arith}
use mathlib.Core.Path.{◌≡◌, sym, ap, ◌∙◌}
use lib.ListN.{length}
use Rattle.text.specs.Cursor.{Puts}
use Rattle.text.proofs.Cursors.{puts_none, then_puts, puts_as, room_left}
use Rattle.reference.specs.Tape.{write_marks}
use Rattle.joining.specs.Carried.{marks_of}
use Rattle.tables.specs.Records.{pair_of}
use Rattle.tables.proofs.writing.Putting.{line_split, line_room, marked_written, unmarked_written}
use Rattle.tables.proofs.writing.put_whole_line.Goals.{then-is_some, else-is_some, Joined-is_some}
use Rattle.tables.proofs.writing.put_whole_line.Goals as goal

-- the marks, if there are any
marks-put : (c : Joined-is_some) → Puts c.put_line.new.out (write_marks (marks_of (pair_of c.args.line))) c.if-is_some.out
marks-put c = let m = c.args.line.marks in
    elim c.if-is_some.branch [
      | then-is_some w ↦ rw w.out-is (puts_as w.put_marks.ensures (marked_written m.low m.high (sym c.is_some.ensures ∙ w.if-is_some.true)))
      | else-is_some w ↦ rw w.out-is (puts_as puts_none (unmarked_written m.low m.high (sym c.is_some.ensures ∙ w.if-is_some.false)))
    ]

pub put_line-requires : goal.put_line-requires
put_line-requires c = let t = c.args.texts.now in
    (c.requires.0.low, omega (arith, line_room t.tape.now t.area.now c.args.tokens.now c.args.line c.args.out.now.at c.requires.1))

pub put_marks-requires : goal.put_marks-requires
put_marks-requires c = let t = c.args.texts.now in
    let m = c.args.line.marks in
    let size = ap length (marked_written m.low m.high (sym c.is_some.ensures ∙ c.if-is_some.true)) in
    room_left c.put_line.ensures _ (omega (arith, size, line_room t.tape.now t.area.now c.args.tokens.now c.args.line c.args.out.now.at c.requires.1))

pub put_tokens-requires-clause-ws_in_bounds : goal.put_tokens-requires-clause-ws_in_bounds
put_tokens-requires-clause-ws_in_bounds c = let t = c.args.texts.now in
    let counts : c.args.line.first + c.args.line.count - c.args.line.first ≡ c.args.line.count = omega arith in
    let room = line_room t.tape.now t.area.now c.args.tokens.now c.args.line c.args.out.now.at c.requires.1 in
    let marks = marks-put (goal.at.put_tokens-requires-clause-ws_in_bounds c).Joined-is_some in
    rw counts (room_left marks _ (room_left c.put_line.ensures _ (omega (arith, room))))

pub returns : goal.returns
returns c = let t = c.args.texts.now in
    let counts : c.args.line.first + c.args.line.count - c.args.line.first ≡ c.args.line.count = omega arith in
    let more = rw counts at c.put_tokens.ensures in
    let marks = marks-put (goal.at.returns c).Joined-is_some in
    puts_as (then_puts (then_puts c.put_line.ensures (omega (arith, c.requires.1)) marks) (omega (arith, c.requires.1)) more)
    (sym (line_split t.tape.now t.area.now c.args.tokens.now c.args.line))
