-- `linefacts::gathering::bits_of` meets its contract. Assumes nothing.
use native.Mathlib.Omega.{arith}
use Rattle.linefacts.proofs.Making.{more_bits}
use Rattle.linefacts.proofs.gathering.bits_of.Goals as goal

pub loop-w-preserved : goal.loop-w-preserved
loop-w-preserved c = let a = c.args in more_bits _ _ a.line.now c.loop-w.invariant (omega arith) c.token_bits-has.ensures
