-- `plan::reaches::ends_run` meets its contract. Assumes nothing.
use Rattle.std.proofs.Common.{arith}
use Rattle.std.proofs.lemmas.Grind.{common_steps}
use Rattle.std.proofs.lemmas.Bool.Decides.{nat_tests}
use Rattle.reference.specs.Control.{not, ◌or◌}
use Rattle.reference.specs.Join.{ends_run}
use Rattle.plan.proofs.reaches.ends_run.Goals as goal

pub returns-then-has_kw : goal.returns-then-has_kw
unfolding ends_run not ◌or◌
returns-then-has_kw c = grind (arith, common_steps)

pub returns-else-has_kw : goal.returns-else-has_kw
unfolding ends_run not ◌or◌
returns-else-has_kw c = grind (arith, nat_tests)
