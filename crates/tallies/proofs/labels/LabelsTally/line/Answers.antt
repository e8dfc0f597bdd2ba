-- `line` of tallies::labels meets its contract. Assumes nothing.
use native.Mathlib.Omega.{arith}
use mathlib.Core.Path.{refl}
use Rattle.tallies.proofs.Adding.{labels_line, last_most, labels_end}
use Rattle.tallies.proofs.labels.LabelsTally.line.Goals as goal

pub returns-clause-counts : goal.returns-clause-counts
returns-clause-counts c = labels_line c.args.self (labels_end c.args.self c.total.ensures) refl

pub returns-clause-spends : goal.returns-clause-spends
returns-clause-spends c = omega (arith, labels_end c.args.self c.total.ensures, last_most c.args.self)
