-- `tallies::casts::count_casts` meets its contract. Assumes nothing.
use native.Mathlib.Omega.{arith}
use Rattle.tape.specs.Held.{commands, tokens_of}
use Rattle.tallies.proofs.Adding.{casts_zero}
use Rattle.tallies.proofs.casts.count_casts.Goals as goal

pub returns : goal.returns
returns c = omega (arith, c.count.ensures, casts_zero (tokens_of (commands c.args.tape.now)))
