-- `plan::uses::use_fits` meets its contract. Assumes nothing.
use Rattle.std.proofs.Common.{arith}
use Rattle.std.proofs.lemmas.Grind.{common_steps}
use Rattle.reference.specs.Control.{not, ◌and◌}
use Rattle.plan.proofs.Fitting.{part_is}
use Rattle.plan.proofs.uses.use_fits.Goals as goal

pub returns-after-parts : goal.returns-after-parts
unfolding not ◌and◌
returns-after-parts c = grind (arith, common_steps, part_is)

pub returns-else-fits : goal.returns-else-fits
unfolding not ◌and◌
returns-else-fits c = grind (arith, common_steps, part_is)
