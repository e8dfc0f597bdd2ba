-- `reports::put_counts` meets its contract. Assumes nothing.
use Rattle.std.proofs.Common.{arith, ◌≤◌, length, ap}
use borrow.Author.Rules.{rules}
use Rattle.reference.specs.Text.{bytes}
use Rattle.text.proofs.Cursors.{then_puts, room_left, at_front}
use Rattle.printing.specs.Decimals.{decimal}
use Rattle.printing.proofs.Decimals.{decimal-length}
use Rattle.rounds.specs.Runs.{tally_of}
use Rattle.reports.specs.Reports.{counts}
use Rattle.reports.proofs.Putting.{then_named, tallied-length}
use Rattle.reports.proofs.put_counts.Goals as goal

pub put_tally-requires : goal.put_tally-requires
put_tally-requires c = room_left c.put_named.ensures _ (omega (arith, ap length c.new-line.ensures.same_bytes, decimal-length c.args.size))

pub put_named-requires-2 : goal.put_named-requires-2
put_named-requires-2 c =
    room_left c.put_tally.ensures _
    (room_left c.put_named.ensures _
    (omega (arith, ap length c.new-line.ensures.same_bytes, decimal-length c.args.size, tallied-length (tally_of c.args.tally))))

pub put_named-requires-3 : goal.put_named-requires-3
put_named-requires-3 c =
    room_left c.put_named-2.ensures _
    (room_left c.put_tally.ensures _
    (room_left c.put_named.ensures _
    (omega (arith, ap length c.new-line.ensures.same_bytes, decimal-length c.args.size, tallied-length (tally_of c.args.tally), decimal-length c.args.removed))))

pub put_named-requires-4 : goal.put_named-requires-4
put_named-requires-4 c =
    let k : length (decimal c.args.cut) ≤ 20 = decimal-length c.args.cut in
    room_left c.put_named-3.ensures _
    (room_left c.put_named-2.ensures _
    (room_left c.put_tally.ensures _
    (room_left c.put_named.ensures _
    (omega (arith, ap length c.new-line.ensures.same_bytes, decimal-length c.args.size, tallied-length (tally_of c.args.tally), decimal-length c.args.removed)))))

pub put-requires : goal.put-requires
put-requires c =
    let k : length (decimal c.args.cut) ≤ 20 = decimal-length c.args.cut in
    let m : length (decimal c.args.cautioned) ≤ 20 = decimal-length c.args.cautioned in
    room_left c.put_named-4.ensures _
    (room_left c.put_named-3.ensures _
    (room_left c.put_named-2.ensures _
    (room_left c.put_tally.ensures _
    (room_left c.put_named.ensures _
    (omega (arith, ap length c.new-line.ensures.same_bytes, decimal-length c.args.size, tallied-length (tally_of c.args.tally), decimal-length c.args.removed))))))

pub returns : goal.returns
unfolding counts
returns c =
    let h : c.new-line.result.at ≤ length c.new-line.result.out.now = omega arith in
    let w = then_named (bytes ", lines removed ") c.args.removed (then_puts c.put_named.ensures h c.put_tally.ensures) h c.put_named-2.ensures in
    let x = then_named (bytes ", results cut ") c.args.cut w h c.put_named-3.ensures in
    at_front (then_puts (then_named (bytes ", lines cautioned ") c.args.cautioned x h c.put_named-4.ensures) h c.put.ensures) (search rules) (search rules) (search rules)
