-- `editions::texts::put_hexadecimal` meets its contract. Assumes nothing.
use native.Mathlib.Omega.{arith}
use Rattle.text.proofs.Cursors.{then_puts}
use Rattle.editions.proofs.texts.put_hexadecimal.Goals as goal

pub returns : goal.returns
returns c = then_puts c.put.ensures (omega (arith, c.requires)) c.put_digits.ensures
