-- `tallies::labels::count_labels` meets its contract. Assumes nothing.
use native.Mathlib.Omega.{arith}
use Rattle.tape.specs.Held.{commands, tokens_of, held}
use Rattle.tallies.proofs.Adding.{labels_zero, label-sum}
use Rattle.tallies.proofs.labels.count_labels.Goals as goal

pub returns : goal.returns
returns c = omega (arith, c.count.ensures, labels_zero (tokens_of (commands c.args.tape.now)), label-sum (held c.args.tape.now))
