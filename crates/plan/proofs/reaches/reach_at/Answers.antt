-- `plan::reaches::reach_at` meets its contract. Assumes nothing.
use Rattle.std.proofs.Common.{rules, inl, inr}
use Rattle.plan.proofs.Reaching.{Looks, reach-ends, reach_kill, reach-breaks, reach_goes}
use Rattle.plan.proofs.reaches.reach_at.Goals as goal
use Rattle.plan.proofs.reaches.reach_at.Goals.{in-Nothing, in-Use}

pub returns-then-ends_run : goal.returns-then-ends_run
returns-then-ends_run c = search (rules, reach-ends)

pub returns-in-Kill : goal.returns-in-Kill
returns-in-Kill c = search (rules, reach_kill)

pub returns-then-opens_or_closes : goal.returns-then-opens_or_closes
returns-then-opens_or_closes c =
    let er : Looks c.args.j c.args.r c.touch.result c.match-touch.r =
    elim c.match-touch.branch [ in-Nothing w ↦ inl (w.in-Nothing.is, w.r-is) | in-Use w ↦ inr (_, w.in-Use.is, w.r-is) ] in
    search (rules, reach-breaks)

pub returns-else-opens_or_closes : goal.returns-else-opens_or_closes
returns-else-opens_or_closes c =
    let er : Looks c.args.j c.args.r c.touch.result c.match-touch.r =
    elim c.match-touch.branch [ in-Nothing w ↦ inl (w.in-Nothing.is, w.r-is) | in-Use w ↦ inr (_, w.in-Use.is, w.r-is) ] in
    search (rules, reach_goes)
