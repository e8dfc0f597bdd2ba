-- `plan::plans::plan_use` meets its contract. Assumes nothing.
use Rattle.std.proofs.Common.{rules}
use Rattle.plan.proofs.Deciding.{used_while, used-live, used_among}
use Rattle.plan.proofs.plans.plan_use.Goals as goal
use Rattle.plan.proofs.plans.plan_use.Goals.{then-has_kw-via-then-has_kw, then-has_kw-via-else-has_kw+then-not-dead_after}

pub returns-then-has_kw : goal.returns-then-has_kw
returns-then-has_kw c =
    elim c.then-has_kw.branch [
      | then-has_kw-via-then-has_kw w ↦ search (rules, used_while)
      | then-has_kw-via-else-has_kw+then-not-dead_after w ↦ let e = rw c.followed-v.ensures at w.dead_after.ensures in search (rules, used-live)
    ]

pub returns : goal.returns
returns c = let e = rw c.followed-v.ensures at c.dead_after.ensures in search (rules, used_among)
