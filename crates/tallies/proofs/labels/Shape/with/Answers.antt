-- `with` of tallies::labels::Shape meets its contract. Assumes nothing.
use Rattle.tallies.proofs.Adding.{first-name, first-other}
use Rattle.tallies.proofs.labels.Shape.with.Goals as goal

pub returns-in-Empty : goal.returns-in-Empty
returns-in-Empty c = rw c.in-Empty.is (first-name c.args.kind c.args.text.now c.if-kind-eq-SYMBOL.true)

pub returns-in_default : goal.returns-in_default
returns-in_default c = rw c.in-Empty.is (first-other c.args.kind c.args.text.now c.if-kind-eq-SYMBOL.false)
