-- `listing_text::room::Clipped::put_le` meets its contract. Assumes nothing.
use Rattle.std.proofs.Common.{ℕ, List, [], ◌∷◌, ◌%◌, ap, sym, arith}
use lib.ListN.{get_or}
use Rattle.text.proofs.Cursors.{le_next, le_none}
use Rattle.listing_text.specs.Room.{Puts}
use Rattle.listing_text.proofs.Pages.{puts_none, then_puts, puts_as}
use Rattle.listing_text.proofs.room.Clipped.put_le.Goals as goal

pub loop-preserved : goal.loop-preserved
loop-preserved c =
    let one : Puts c.loop.self (c.loop.rest % 256 ∷ []) c.put_byte.new.self = puts_as (ap (λ (bytes : List ℕ). get_or bytes 0 0 ∷ []) c.to_le_bytes.ensures) c.put_byte.ensures in
    λ p x. c.loop.invariant p (puts_as (le_next c.args.n c.loop.counter c.loop.rest (omega (arith, c.loop-test.true))) (then_puts one x))

pub returns : goal.returns
returns c = c.loop.invariant _ (puts_as (sym (le_none c.args.n c.loop.counter c.loop.rest (omega (arith, c.loop-test.false)))) puts_none)
