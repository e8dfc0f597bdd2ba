-- `cautioned::telling::put_sets` meets its contract. Assumes nothing.
use Rattle.std.proofs.Common.{arith}
use Rattle.text.proofs.Cursors.{puts_none, then_puts, puts_as, room_left}
use Rattle.cautioned.proofs.Bytes.{none_put, room_for, put_next, all_put}
use Rattle.cautioned.proofs.telling.put_sets.Goals as goal

pub loop-set-init : goal.loop-set-init
loop-set-init c = puts_as puts_none none_put

pub put-requires : goal.put-requires
put-requires c =
    rw c.to_le_bytes.ensures (room_left c.loop-set.invariant 2 (omega (arith, room_for c.args.sets.now c.loop-set.set-index c.loop-set-test.true)))

pub loop-set-preserved : goal.loop-set-preserved
loop-set-preserved c =
    puts_as (then_puts c.loop-set.invariant (omega arith) (rw c.to_le_bytes.ensures at c.put.ensures))
    (put_next c.args.sets.now c.loop-set.set-index c.loop-set-test.true)

pub returns : goal.returns
returns c = puts_as c.loop-set.invariant (all_put c.args.sets.now c.loop-set.set-index (omega arith))
