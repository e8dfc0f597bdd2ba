-- `numbers::print::put_digits` meets its contract. Assumes nothing.
use Rattle.std.proofs.Common.{ℕ, arith, [], ◌∷◌, rules}
use Rattle.numbers.specs.Writing.{hexadecimal}
use Rattle.numbers.proofs.Digits.{longer}
use Rattle.numbers.proofs.Writing.{Begun, digits_begun, no-digit_begun, room_rest, rest_put}
use Rattle.numbers.proofs.print.+put_digits.Goals.{After-last_digit, then-v-ge16, else-v-ge16}
use Rattle.numbers.proofs.print.+put_digits.Goals as goal

pub put_digits-requires : goal.put_digits-requires
put_digits-requires t c = (search rules, omega (arith, longer c.args.v c.if-v-ge16.true c.ranges.v.fits))

begun : (t : ℕ) (c : After-last_digit t) → Begun c.args.out.now (c.last_digit.result ∷ []) (hexadecimal c.args.v) c.if-v-ge16.out
begun t c =
    elim c.if-v-ge16.branch [
      | then-v-ge16 w ↦ rw w.out-is (digits_begun c.last_digit.ensures w.if-v-ge16.true c.ranges.v.fits w.put_digits.ensures)
      | else-v-ge16 w ↦ rw w.out-is (no-digit_begun c.last_digit.ensures w.if-v-ge16.false)
    ]

pub put_byte-requires : goal.put_byte-requires
put_byte-requires t c = room_rest (begun t c) c.requires

pub returns : goal.returns
returns t c = rest_put (begun t c.before) c.requires c.put_byte.ensures
