-- `text::cursor::Cursor::put_le` meets its contract. Assumes nothing.
use Rattle.std.proofs.Common.{[], ◌∷◌, ◌+◌, ◌-◌, ◌%◌, ap, sym, arith}
use lib.ListN.{take}
use Rattle.text.specs.Cursor.{Puts}
use Rattle.text.proofs.Cursors.{puts_none, then_puts, puts_as, room_left, le_next, le_none}
use Rattle.text.proofs.cursor.Cursor.put_le.Goals as goal

pub loop-preserved : goal.loop-preserved
loop-preserved c =
    let one : Puts c.loop.self (c.loop.rest % 256 ∷ []) c.put.new.self = puts_as c.put.ensures (ap (take 1) c.to_le_bytes.ensures) in
    record {
      rest = λ p x. c.loop.invariant.rest p (puts_as (then_puts one (omega (arith, c.loop.invariant.room)) x) (le_next c.args.n c.loop.counter c.loop.rest c.loop-test.true));
      room = room_left one (c.args.n - (c.loop.counter + 1)) (omega (arith, c.loop.invariant.room, c.loop-test.true));
    }

pub returns : goal.returns
returns c = c.loop.invariant.rest _ (puts_as puts_none (sym (le_none c.args.n c.loop.counter c.loop.rest c.loop-test.false)))
