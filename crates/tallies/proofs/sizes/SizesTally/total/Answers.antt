-- `total` of tallies::sizes meets its contract. Assumes nothing.
use Rattle.tallies.proofs.Sizing.{sizes_end}
use Rattle.tallies.proofs.sizes.SizesTally.total.Goals as goal

pub returns : goal.returns
returns c = sizes_end c.args.self
