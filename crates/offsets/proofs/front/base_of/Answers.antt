-- `offsets::front::base_of` meets its contract. Assumes nothing.
use Rattle.offsets.specs.Offsets.{base_of}
use Rattle.offsets.proofs.front.base_of.Goals as goal

pub returns : goal.returns
unfolding base_of
returns c = c.number_at.ensures
