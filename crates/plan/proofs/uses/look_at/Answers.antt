-- `plan::uses::look_at` meets its contract. Assumes nothing.
use Rattle.std.proofs.Common.{rules}
use Rattle.plan.proofs.Looking.{looking}
use Rattle.plan.proofs.uses.look_at.Goals as goal

pub returns-then-is_label : goal.returns-then-is_label
returns-then-is_label c = search (rules, looking)

pub returns-in-Use-eq1 : goal.returns-in-Use-eq1
returns-in-Use-eq1 c = search (rules, looking)

pub returns-in-Nothing : goal.returns-in-Nothing
returns-in-Nothing c = search (rules, looking)

pub returns-in_default : goal.returns-in_default
returns-in_default c = search (rules, looking)

pub returns-in_default-2 : goal.returns-in_default-2
returns-in_default-2 c = search (rules, looking)

pub returns-in_default-3 : goal.returns-in_default-3
returns-in_default-3 c = search (rules, looking)

pub returns-in_default-4 : goal.returns-in_default-4
returns-in_default-4 c = search (rules, looking)
