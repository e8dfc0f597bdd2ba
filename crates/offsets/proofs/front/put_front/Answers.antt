-- `offsets::front::put_front` meets its contract. Assumes nothing.
use native.Mathlib.Omega.{arith}
use Rattle.text.proofs.Cursors.{then_puts}
use Rattle.offsets.specs.Offsets.{front}
use Rattle.offsets.proofs.front.put_front.Goals as goal

pub returns : goal.returns
unfolding front
returns c = then_puts c.put_byte.ensures (omega (arith, c.requires)) c.put_le.ensures
