-- `plan::uses::fits` meets its contract. Assumes nothing.
use Rattle.std.proofs.Common.{arith}
use Rattle.std.proofs.lemmas.Grind.{common_steps}
use Rattle.reference.specs.Control.{not, ◌and◌}
use Rattle.plan.proofs.Fitting.{fits_is}
use Rattle.plan.proofs.uses.fits.Goals as goal

pub returns-then-not-is_compound : goal.returns-then-not-is_compound
unfolding not ◌and◌
returns-then-not-is_compound c = grind (arith, common_steps, fits_is)

pub returns-else-not-is_compound : goal.returns-else-not-is_compound
unfolding not ◌and◌
returns-else-not-is_compound c = grind (arith, common_steps, fits_is)
