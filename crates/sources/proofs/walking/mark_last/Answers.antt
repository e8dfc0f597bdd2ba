-- `sources::walking::mark_last` meets its contract. Assumes nothing.
use native.Mathlib.Omega.{arith}
use Rattle.sources.proofs.Walked.{no_line, last_line}
use Rattle.sources.proofs.walking.mark_last.Goals as goal

pub returns-then-n-gt0 : goal.returns-then-n-gt0
returns-then-n-gt0 c = last_line c.args.n c.args.flags.now (λ e. omega (arith, c.if-n-gt0.true))

pub returns-else-n-gt0 : goal.returns-else-n-gt0
returns-else-n-gt0 c = no_line c.args.n c.args.flags.now (omega (arith, c.if-n-gt0.false))
