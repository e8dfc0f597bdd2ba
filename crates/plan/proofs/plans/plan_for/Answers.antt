-- `plan::plans::plan_for` meets its contract. Assumes nothing.
use Rattle.std.proofs.Common.{rules}
use Rattle.plan.proofs.Deciding.{choosing}
use Rattle.plan.proofs.plans.plan_for.Goals as goal
use Rattle.plan.proofs.plans.plan_for.Goals.{else-is_lone_number-via-else-is_lone_number, else-is_lone_number-via-then-is_lone_number+in-None-1}

pub returns : goal.returns
returns c = search (rules, choosing)

pub returns-2 : goal.returns-2
returns-2 c =
    elim c.else-is_lone_number.branch [
      | else-is_lone_number-via-else-is_lone_number w ↦ search (rules, choosing)
      | else-is_lone_number-via-then-is_lone_number+in-None-1 w ↦ search (rules, choosing)
    ]
