-- `line` of tallies::casts meets its contract. Assumes nothing.
use mathlib.Core.Path.{refl}
use Rattle.tallies.proofs.Adding.{casts_line}
use Rattle.tallies.proofs.casts.CastsTally.line.Goals as goal

pub returns-clause-counts : goal.returns-clause-counts
returns-clause-counts c = casts_line c.args.self refl refl
