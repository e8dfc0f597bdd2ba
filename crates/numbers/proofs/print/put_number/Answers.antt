-- `numbers::print::put_number` meets its contract. Assumes nothing.
use Rattle.std.proofs.Common.{arith, length}
use Rattle.reference.specs.Numbers.{show_natural, show}
use Rattle.reference.proofs.Shapes.{show-length}
use Rattle.text.specs.Cursor.{Fits}
use Rattle.numbers.proofs.Writing.{Begun, sign_begun, no-sign_begun, room_rest, rest_put}
use Rattle.numbers.proofs.print.put_number.Goals.{After-unsigned_abs, then-v-lt0, else-v-lt0}
use Rattle.numbers.proofs.print.put_number.Goals as goal

room : (c : After-unsigned_abs) → Fits c.args.out.now (length (show c.args.v))
room c = omega (arith, c.requires, show-length c.args.v)

begun : (c : After-unsigned_abs) → Begun c.args.out.now (show_natural c.unsigned_abs.result) (show c.args.v) c.if-v-lt0.out
begun c =
    elim c.if-v-lt0.branch [
      | then-v-lt0 w ↦ rw w.out-is (sign_begun c.args.v c.ranges.v c.unsigned_abs.ensures.value w.if-v-lt0.true w.put_byte.ensures)
      | else-v-lt0 w ↦ rw w.out-is (no-sign_begun c.args.v c.ranges.v c.unsigned_abs.ensures.value w.if-v-lt0.false)
    ]

pub put_natural-requires : goal.put_natural-requires
put_natural-requires c = room_rest (begun c.before) (room c.before)

pub returns : goal.returns
returns c = rest_put (begun c.before.before) (room c.before.before) c.put_natural.ensures
