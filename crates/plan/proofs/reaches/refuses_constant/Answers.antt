-- `plan::reaches::refuses_constant` meets its contract. Assumes nothing.
use Rattle.std.proofs.Common.{arith}
use Rattle.std.proofs.lemmas.Grind.{common_steps}
use Rattle.reference.specs.Control.{◌and◌}
use Rattle.joining.specs.Plan.{refuses}
use Rattle.plan.proofs.reaches.refuses_constant.Goals as goal

pub returns-then-uses : goal.returns-then-uses
unfolding refuses ◌and◌
returns-then-uses c = grind (arith, common_steps)

pub returns-else-uses : goal.returns-else-uses
unfolding refuses ◌and◌
returns-else-uses c = grind (arith, common_steps)
