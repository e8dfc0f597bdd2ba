-- `plan::uses::same_run` meets its contract. Assumes nothing.
use Rattle.std.proofs.Common.{arith}
use Rattle.std.proofs.lemmas.Grind.{common_steps}
use Rattle.reference.specs.Control.{not, ◌or◌}
use Rattle.plan.specs.Uses.{same_run}
use Rattle.plan.proofs.uses.same_run.Goals as goal

pub returns-then-not-has_call : goal.returns-then-not-has_call
unfolding same_run not ◌or◌
returns-then-not-has_call c = grind (arith, common_steps)

pub returns-else-not-has_call : goal.returns-else-not-has_call
unfolding same_run not ◌or◌
returns-else-not-has_call c = grind (arith, common_steps)
