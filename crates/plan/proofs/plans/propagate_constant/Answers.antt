-- `plan::plans::propagate_constant` meets its contract. Assumes nothing.
use Rattle.std.proofs.Common.{refl}
use Rattle.plan.proofs.Deciding.{sound-known, reach-inside, constant_unused, constant-live, constant_refused, constant-joins}
use Rattle.plan.proofs.plans.propagate_constant.Goals as goal
use Rattle.plan.proofs.plans.propagate_constant.Goals.{else-r-via-then-r+then-ends_at+else-all_take, else-r-via-then-r+else-ends_at, else-r-via-else-r}

pub ends_at-requires : goal.ends_at-requires
ends_at-requires c =
    let p = c.requires in
    (p.0, sound-known p.1, p.2, reach-inside _ _ _ _ _ _ _ p.2 c.reach_of.result c.reach_of.ensures c.come_to-r.ensures)

pub all_take-requires : goal.all_take-requires
all_take-requires c =
    let p = c.requires in
    (p.0.0, sound-known p.1, p.2, reach-inside _ _ _ _ _ _ _ p.2 c.reach_of.result c.reach_of.ensures c.come_to-r.ensures)

pub returns-then-all_take : goal.returns-then-all_take
returns-then-all_take c =
    constant-joins _ _ _ _ _ c.args.d _ _ c.reach_of.result c.reach_of.ensures c.come_to-r.ensures c.if-r.true c.ends_at.ensures c.if-ends_at.true c.all_take.ensures c.if-all_take.true
    c.requires.1 c.join_of.ensures

pub returns-else-r : goal.returns-else-r
returns-else-r c =
    elim c.else-r.branch [
      | else-r-via-then-r+then-ends_at+else-all_take w ↦
          constant_refused _ _ _ _ _ c.args.d _ _ c.reach_of.result c.reach_of.ensures c.come_to-r.ensures w.if-r.true w.ends_at.ensures w.if-ends_at.true w.all_take.ensures w.if-all_take.false refl
      | else-r-via-then-r+else-ends_at w ↦
          constant-live _ _ _ _ _ c.args.d _ _ c.reach_of.result c.reach_of.ensures c.come_to-r.ensures w.if-r.true w.ends_at.ensures w.if-ends_at.false refl
      | else-r-via-else-r w ↦ constant_unused _ _ _ _ _ c.args.d _ _ c.reach_of.result c.reach_of.ensures c.come_to-r.ensures w.if-r.false refl
    ]
