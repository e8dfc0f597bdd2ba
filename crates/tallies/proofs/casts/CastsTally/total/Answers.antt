-- `total` of tallies::casts meets its contract. Assumes nothing.
use native.Mathlib.Omega.{arith}
use Rattle.tallies.proofs.Adding.{casts_none}
use Rattle.tallies.proofs.casts.CastsTally.total.Goals as goal

pub returns : goal.returns
returns c = omega (arith, casts_none c.args.self)
