-- `plan::reaches::ends_at` meets its contract. Assumes nothing.
use Rattle.std.proofs.Common.{arith}
use Rattle.std.proofs.lemmas.Grind.{common_steps}
use Rattle.reference.specs.Control.{◌or◌}
use Rattle.plan.proofs.Reaching.{ends_is}
use Rattle.plan.proofs.reaches.ends_at.Goals as goal

pub returns-then-dead_after : goal.returns-then-dead_after
unfolding ◌or◌
returns-then-dead_after c = grind (arith, common_steps, ends_is)

pub returns-else-dead_after : goal.returns-else-dead_after
unfolding ◌or◌
returns-else-dead_after c = grind (arith, common_steps, ends_is)
