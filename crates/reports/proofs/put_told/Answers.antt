-- `reports::put_told` meets its contract. Assumes nothing.
use Rattle.std.proofs.Common.{arith, ◌≤◌, length, ap}
use borrow.Author.Rules.{rules}
use Rattle.reference.specs.Text.{bytes}
use Rattle.text.proofs.Cursors.{then_puts, puts_as, room_left, at_front}
use Rattle.printing.proofs.Decimals.{decimal-length}
use Rattle.reports.specs.Reports.{refusal}
use Rattle.reports.proofs.Putting.{then_named, meaning-length}
use Rattle.reports.proofs.put_told.Goals as goal

pub put_named-requires-2 : goal.put_named-requires-2
put_named-requires-2 c = room_left c.put_named.ensures _ (omega (arith, ap length c.new-line.ensures.same_bytes, decimal-length c.args.number))

pub put-requires : goal.put-requires
put-requires c =
    room_left c.put_named-2.ensures _
    (room_left c.put_named.ensures _
    (omega (arith, ap length c.new-line.ensures.same_bytes, decimal-length c.args.number, decimal-length c.args.place)))

pub put-requires-2 : goal.put-requires-2
put-requires-2 c =
    let k : length c.args.meant.now ≤ 200 = rw c.requires.1 (meaning-length c.args.number) in
    room_left c.put.ensures _
    (room_left c.put_named-2.ensures _
    (room_left c.put_named.ensures _
    (omega (arith, ap length c.new-line.ensures.same_bytes, decimal-length c.args.number, decimal-length c.args.place))))

pub put-requires-3 : goal.put-requires-3
put-requires-3 c =
    let k : length c.args.meant.now ≤ 200 = rw c.requires.1 (meaning-length c.args.number) in
    room_left c.put-2.ensures _
    (room_left c.put.ensures _
    (room_left c.put_named-2.ensures _
    (room_left c.put_named.ensures _
    (omega (arith, ap length c.new-line.ensures.same_bytes, decimal-length c.args.number, decimal-length c.args.place)))))

pub returns : goal.returns
unfolding refusal
returns c =
    let h : c.new-line.result.at ≤ length c.new-line.result.out.now = omega arith in
    let w = then_puts (then_named (bytes " at ") c.args.place c.put_named.ensures h c.put_named-2.ensures) h c.put.ensures in
    at_front (then_puts (then_puts w h (puts_as c.put-2.ensures c.requires.1)) h c.put-3.ensures) (search rules) (search rules) (search rules)
