-- `lines::traits::is_writing` meets its contract. Assumes nothing.
use native.Mathlib.Omega.{arith}
use Rattle.lines.proofs.traits.Tests.{no_writing}
use Rattle.lines.proofs.traits.is_writing.Goals as goal

pub returns-then-b-ne45 : goal.returns-then-b-ne45
returns-then-b-ne45 c = no_writing c.args.s.now (omega (arith, c.in-len1-up.len_at_least)) c.if-b-ne32.true c.if-b-ne43.true c.if-b-ne45.true
