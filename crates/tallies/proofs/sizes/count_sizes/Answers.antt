-- `tallies::sizes::count_sizes` meets its contract. Assumes nothing.
use mathlib.Core.Path.{ap, ◌∙◌}
use Rattle.tape.specs.Held.{commands}
use Rattle.tallies.specs.Counting.{sizes_of}
use Rattle.tallies.proofs.Sizing.{sizes_all}
use Rattle.tallies.proofs.sizes.count_sizes.Goals as goal

pub returns : goal.returns
returns c = ap sizes_of c.count.ensures ∙ sizes_all (commands c.args.tape.now)
