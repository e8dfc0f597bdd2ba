-- `reports::put_visible` meets its contract. Assumes nothing.
use Rattle.std.proofs.Common.{arith, ap, length}
use mathlib.Core.List.{flat_map}
use borrow.Author.Rules.{rules}
use Rattle.text.proofs.Cursors.{puts_none, then_puts, puts_as, room_left, at_front}
use Rattle.reports.specs.Reports.{visible_byte, visible}
use Rattle.reports.proofs.Showing.{room_shown, shown_next, all_shown}
use Rattle.reports.proofs.put_visible.Goals as goal

pub loop-b-init : goal.loop-b-init
unfolding flat_map
loop-b-init c = puts_none

pub put_visible_byte-requires : goal.put_visible_byte-requires
put_visible_byte-requires c =
    room_left c.loop-b.invariant _
    (omega (arith, ap length c.new-shown.ensures.same_bytes, room_shown c.args.name.now c.loop-b.b-index c.loop-b-test.true))

pub loop-b-preserved : goal.loop-b-preserved
loop-b-preserved c =
    puts_as (then_puts c.loop-b.invariant (omega arith) c.put_visible_byte.ensures) (shown_next visible_byte c.args.name.now c.loop-b.b-index c.loop-b-test.true)

pub returns : goal.returns
unfolding visible
returns c =
    at_front (puts_as c.loop-b.invariant (all_shown visible_byte c.args.name.now c.loop-b.b-index (omega arith))) (search rules) (search rules) (search rules)
