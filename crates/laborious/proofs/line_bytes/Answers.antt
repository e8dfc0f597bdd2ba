-- `laborious::line_bytes` meets its contract. Assumes nothing.
use Rattle.reference.proofs.Opened.{opened}
use Rattle.laborious.proofs.Writer.{first_line, second_line, even_line, odd_line}
use native.Mathlib.Omega.{arith}
use Rattle.laborious.proofs.line_bytes.Goals as goal

pub returns-in-0 : goal.returns-in-0
unfolding opened
returns-in-0 c = rw (first_line c.args.i c.in-0.is)

pub returns-in-1 : goal.returns-in-1
unfolding opened
returns-in-1 c = rw (second_line c.args.i c.in-1.is)

pub returns-in_default : goal.returns-in_default
unfolding opened
returns-in_default c = rw (even_line c.args.i (omega arith) (omega arith))

pub returns-in_default-2 : goal.returns-in_default-2
unfolding opened
returns-in_default-2 c = rw (odd_line c.args.i (omega arith) (omega arith))
