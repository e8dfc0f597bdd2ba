-- `listing_text::fields::Field::put` meets its contract. Assumes nothing.
use Rattle.std.proofs.Common.{ap, ◌∙◌, arith, take}
use Rattle.text.proofs.Cursors.{le_front}
use Rattle.reference.specs.Tape.{write_command_by}
use Rattle.listing_text.proofs.fields.Field.put.Goals.{in-Some, in-None}
use Rattle.listing_text.proofs.Pages.{then_puts, puts_as}
use Rattle.listing_text.proofs.fields.Field.put.Goals as goal

pub returns-after-address : goal.returns-after-address
unfolding write_command_by
returns-after-address c = elim c.match-address.branch [
  | in-Some w ↦ (let tail = rw w.out-is at c.put_byte-in-Line.ensures in
      rw (c.in-Line.is, w.in-Some.is) (then_puts (then_puts w.put_byte.ensures w.put_le.ensures) tail))
  | in-None w ↦ (let tail = rw w.out-is at c.put_byte-in-Line.ensures in rw (c.in-Line.is, w.in-None.is) (then_puts w.put_byte-in-None.ensures tail))
]

pub returns-in-Marks : goal.returns-in-Marks
unfolding write_command_by
returns-in-Marks c = rw c.in-Marks.is (then_puts (then_puts c.put_byte-in-Marks.ensures c.put_le-in-Marks.ensures) c.put_le-in-Marks-2.ensures)

pub returns-in-Token : goal.returns-in-Token
returns-in-Token c =
    let size = puts_as (ap (take 2) c.to_le_bytes.ensures ∙ le_front 2 _ (omega arith)) c.put.ensures in
    rw c.in-Token.is (then_puts (then_puts c.put_byte-in-Token.ensures size) c.put-in-Token.ensures)
