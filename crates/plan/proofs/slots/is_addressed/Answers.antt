-- `plan::slots::is_addressed` meets its contract. Assumes nothing.
use Rattle.std.proofs.Common.{rules}
use Rattle.plan.proofs.Addressing.{row_unaddressed, slot-addressed}
use Rattle.plan.proofs.slots.is_addressed.Goals as goal

pub returns-then-f-ge8 : goal.returns-then-f-ge8
returns-then-f-ge8 c = search (rules, slot-addressed)

pub returns-else-f-ge8 : goal.returns-else-f-ge8
returns-else-f-ge8 c = search (rules, row_unaddressed)
