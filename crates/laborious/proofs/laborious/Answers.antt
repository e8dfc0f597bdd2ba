-- `laborious::laborious` meets its contract. Assumes nothing.
use native.Mathlib.Omega.{arith}
use Rattle.laborious.proofs.Answering.{many, short, enough}
use Rattle.laborious.proofs.laborious.Goals as goal

pub returns-then-n-gt256 : goal.returns-then-n-gt256
returns-then-n-gt256 c = rw c.at.ensures (many c.args.n c.args.out.now c.if-n-gt256.true)

pub returns-then-out-lt59137 : goal.returns-then-out-lt59137
returns-then-out-lt59137 c =
    rw c.at-then-out-lt59137.ensures (short c.args.n c.args.out.now (omega (arith, c.if-n-gt256.false)) c.if-out-lt59137.true)

pub returns : goal.returns
returns c =
    enough c.args.n c.args.out.now (omega (arith, c.if-n-gt256.false)) (omega (arith, c.if-out-lt59137.false))
    c.write_laborious.ensures
