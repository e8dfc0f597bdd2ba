-- `plan::plans::is_bracketed` meets its contract. Assumes nothing.
use Rattle.std.proofs.Common.{arith}
use Rattle.reference.specs.Control.{when◌then◌else◌}
use Rattle.plan.proofs.Fitting.{bracketed_is}
use Rattle.plan.proofs.plans.is_bracketed.Goals as goal

pub returns-then-rules : goal.returns-then-rules
unfolding when◌then◌else◌
returns-then-rules c = grind (arith, bracketed_is)

pub returns-else-rules : goal.returns-else-rules
unfolding when◌then◌else◌
returns-else-rules c = grind (arith, bracketed_is)
