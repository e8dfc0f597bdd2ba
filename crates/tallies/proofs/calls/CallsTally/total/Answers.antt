-- `total` of tallies::calls meets its contract. Assumes nothing.
use native.Mathlib.Omega.{arith}
use Rattle.tallies.proofs.Adding.{calls_none}
use Rattle.tallies.proofs.calls.CallsTally.total.Goals as goal

pub returns : goal.returns
returns c = omega (arith, calls_none c.args.self.name.now c.args.self)
