-- `page::put_escaped` meets its contract. Assumes nothing.
use Rattle.std.proofs.Common.{arith}
use Rattle.text.proofs.Cursors.{puts_none, then_puts, puts_as, room_left}
use Rattle.page.proofs.Putting.{none_escaped, room_escaped, escaped_next, all_escaped}
use Rattle.page.proofs.put_escaped.Goals as goal

pub loop-b-init : goal.loop-b-init
loop-b-init c = puts_as puts_none none_escaped

pub put_byte-requires : goal.put_byte-requires
put_byte-requires c = room_left c.loop-b.invariant _ (omega (arith, room_escaped c.args.text.now c.loop-b.b-index c.loop-b-test.true))

pub loop-b-preserved : goal.loop-b-preserved
loop-b-preserved c =
    puts_as (then_puts c.loop-b.invariant (omega arith) c.put_byte.ensures) (escaped_next c.args.text.now c.loop-b.b-index c.loop-b-test.true)

pub returns : goal.returns
returns c = puts_as c.loop-b.invariant (all_escaped c.args.text.now c.loop-b.b-index (omega arith))
