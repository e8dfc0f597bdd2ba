-- `formula::places::operator` meets its contract. Assumes nothing.
use Rattle.formula.proofs.Ahead.{operator-adds, operator-takes, operator_none}
use Rattle.std.proofs.Common.{rules}
use Rattle.formula.proofs.places.operator.Goals as goal

pub returns-in-Some : goal.returns-in-Some
returns-in-Some c = search (rules, operator-adds)

pub returns-in_err-next : goal.returns-in_err-next
returns-in_err-next c = rw c.from_residual.ensures (search (rules, operator_none))

pub returns : goal.returns
returns c = search (rules, operator-takes)
