-- `plan::plans::plan_single` meets its contract. Assumes nothing.
use Rattle.std.proofs.Common.{rules}
use Rattle.ground.specs.Rules.{rules_of}
use Rattle.plan.proofs.Deciding.{use_inside, single_none, single_at}
use Rattle.plan.proofs.plans.plan_single.Goals as goal

pub returns-in_err-j : goal.returns-in_err-j
returns-in_err-j c = search (rules, single_none)

pub plan_use-requires : goal.plan_use-requires
plan_use-requires c = (c.requires.0, c.requires.1, c.requires.2, use_inside (rules_of c.args.rules) _ _ _ _ _ _ _ c.use_of.ensures c.in_ok-j.was)

pub returns : goal.returns
returns c = search (rules, single_at)
