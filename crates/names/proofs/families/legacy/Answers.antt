-- `names::families::legacy` meets its contract. Assumes nothing.
use Rattle.reference.specs.Control.{when◌then◌else◌}
use Rattle.names.specs.Tables.{unpadded}
use Rattle.names.proofs.families.legacy.Goals as goal

pub returns : goal.returns
unfolding unpadded when◌then◌else◌
returns c = c.legacy_in.ensures
