-- `line` of tallies::sizes meets its contract. Assumes nothing.
use Rattle.tallies.proofs.Sizing.{sizes_line}
use Rattle.tallies.proofs.sizes.SizesTally.line.Goals as goal

pub returns-clause-counts : goal.returns-clause-counts
returns-clause-counts c = sizes_line c.args.self
