-- `caution_words::cautions_told::put_head` meets its contract. Assumes nothing.
use Rattle.std.proofs.Common.{arith, ap, length, ◌≤◌}
use borrow.Author.Rules.{rules}
use Rattle.text.proofs.Cursors.{then_puts, puts_as, room_left, at_front}
use Rattle.printing.proofs.Decimals.{decimal-length}
use Rattle.caution_words.specs.Told.{head}
use Rattle.caution_words.proofs.cautions_told.put_head.Goals as goal

pub put-requires-2 : goal.put-requires-2
put-requires-2 c =
    room_left c.put_decimal.ensures _
    (room_left c.put.ensures _ (omega (arith, ap length c.new-line.ensures.same_bytes, decimal-length c.args.cautioned)))

pub put_decimal-requires-2 : goal.put_decimal-requires-2
put_decimal-requires-2 c =
    room_left c.put-2.ensures _
    (room_left c.put_decimal.ensures _
    (room_left c.put.ensures _ (omega (arith, ap length c.new-line.ensures.same_bytes, decimal-length c.args.cautioned))))

pub put-requires-3 : goal.put-requires-3
put-requires-3 c =
    let l = ap length c.new-line.ensures.same_bytes in
    let a = room_left c.put.ensures 239 (omega (arith, l)) in
    let b = room_left c.put_decimal.ensures 219 (omega (arith, a, decimal-length c.args.cautioned)) in
    let d = room_left c.put-2.ensures 215 (omega (arith, b)) in
    room_left c.put_decimal-2.ensures _ (omega (arith, d, decimal-length c.args.lines))

pub put-requires-4 : goal.put-requires-4
put-requires-4 c =
    let l = ap length c.new-line.ensures.same_bytes in
    let a = room_left c.put.ensures 239 (omega (arith, l)) in
    let b = room_left c.put_decimal.ensures 219 (omega (arith, a, decimal-length c.args.cautioned)) in
    let d = room_left c.put-2.ensures 215 (omega (arith, b)) in
    let e = room_left c.put_decimal-2.ensures 195 (omega (arith, d, decimal-length c.args.lines)) in
    room_left c.put-3.ensures _ (omega (arith, e, ap length c.silence.ensures))

pub put-requires-5 : goal.put-requires-5
put-requires-5 c =
    let l = ap length c.new-line.ensures.same_bytes in
    let a = room_left c.put.ensures 239 (omega (arith, l)) in
    let b = room_left c.put_decimal.ensures 219 (omega (arith, a, decimal-length c.args.cautioned)) in
    let d = room_left c.put-2.ensures 215 (omega (arith, b)) in
    let e = room_left c.put_decimal-2.ensures 195 (omega (arith, d, decimal-length c.args.lines)) in
    let f = room_left c.put-3.ensures 170 (omega (arith, e)) in
    room_left c.put-4.ensures _ (omega (arith, f, ap length c.silence.ensures))

pub returns : goal.returns
unfolding head
returns c =
    let h : c.new-line.result.at ≤ length c.new-line.result.out.now = omega arith in
    let counted = then_puts (then_puts c.put.ensures h c.put_decimal.ensures) h c.put-2.ensures in
    let lines = then_puts (then_puts counted h c.put_decimal-2.ensures) h c.put-3.ensures in
    at_front (then_puts (then_puts lines h (puts_as c.put-4.ensures c.silence.ensures)) h c.put-5.ensures) (search rules) (search rules) (search rules)
