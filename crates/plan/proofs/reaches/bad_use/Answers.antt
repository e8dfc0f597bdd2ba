-- `plan::reaches::bad_use` meets its contract. Assumes nothing.
use Rattle.std.proofs.Common.{rules}
use Rattle.reference.specs.Join.{bad_use}
use Rattle.laws.proofs.Scans.{tests}
use Rattle.plan.proofs.reaches.bad_use.Goals as goal

pub returns-then-updates_first : goal.returns-then-updates_first
unfolding bad_use
returns-then-updates_first c = search (rules, tests)

pub returns-else-updates_first : goal.returns-else-updates_first
unfolding bad_use
returns-else-updates_first c = search (rules, tests)
