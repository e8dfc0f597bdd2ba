-- `reports::put_start` meets its contract. Assumes nothing.
use Rattle.std.proofs.Common.{arith, ◌≤◌, length, ap}
use borrow.Author.Rules.{rules}
use Rattle.reference.specs.Text.{bytes}
use Rattle.text.proofs.Cursors.{then_puts, room_left, at_front}
use Rattle.printing.proofs.Decimals.{decimal-length}
use Rattle.reports.specs.Reports.{started}
use Rattle.reports.proofs.Putting.{then_named, then_end, hexadecimal-length}
use Rattle.reports.proofs.put_start.Goals as goal

pub put_digits-requires : goal.put_digits-requires
put_digits-requires c =
    room_left c.put-2.ensures _ (room_left c.put.ensures _ (omega (arith, ap length c.new-line.ensures.same_bytes, hexadecimal-length c.args.v)))

pub put_named-requires : goal.put_named-requires
put_named-requires c =
    room_left c.put_digits.ensures _
    (room_left c.put-2.ensures _
    (room_left c.put.ensures _
    (omega (arith, ap length c.new-line.ensures.same_bytes, hexadecimal-length c.args.v))))

pub put-requires-3 : goal.put-requires-3
put-requires-3 c =
    room_left c.put_named.ensures _
    (room_left c.put_digits.ensures _
    (room_left c.put-2.ensures _
    (room_left c.put.ensures _
    (omega (arith, ap length c.new-line.ensures.same_bytes, hexadecimal-length c.args.v, decimal-length c.args.v)))))

pub returns : goal.returns
unfolding started
returns c =
    let h : c.new-line.result.at ≤ length c.new-line.result.out.now = omega arith in
    let w = then_puts (then_puts c.put.ensures h c.put-2.ensures) h c.put_digits.ensures in
    let x = then_puts (then_named (bytes " (") c.args.v w h c.put_named.ensures) h c.put-3.ensures in
    at_front (then_end _ x) (search rules) (search rules) (search rules)
