-- `numbers::print::put_natural` meets its contract. Assumes nothing.
use Rattle.std.proofs.Common.{ap, arith, length}
use Rattle.reference.specs.Numbers.{show_natural}
use Rattle.numbers.specs.Writing.{hexadecimal}
use Rattle.numbers.proofs.Digits.{natural_large}
use Rattle.numbers.proofs.Writing.{Begun, mark_begun, no-mark_begun, room_rest, rest_put}
use Rattle.numbers.proofs.print.put_natural.Goals.{Joined-v-ge10, then-v-ge10, else-v-ge10}
use Rattle.numbers.proofs.print.put_natural.Goals as goal

pub put-requires : goal.put-requires
put-requires c = omega (arith, c.requires, ap length (natural_large c.args.v c.if-v-ge10.true))

begun : (c : Joined-v-ge10) → Begun c.args.out.now (hexadecimal c.args.v) (show_natural c.args.v) c.if-v-ge10.out
begun c =
    elim c.if-v-ge10.branch [
      | then-v-ge10 w ↦ rw w.out-is (mark_begun c.args.v w.if-v-ge10.true w.put.ensures)
      | else-v-ge10 w ↦ rw w.out-is (no-mark_begun c.args.v w.if-v-ge10.false)
    ]

pub put_digits-requires : goal.put_digits-requires
put_digits-requires c = room_rest (begun c.before) c.requires

pub returns : goal.returns
returns c = rest_put (begun c.before.before) c.requires c.put_digits.ensures
