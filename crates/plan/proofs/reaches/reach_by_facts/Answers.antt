-- `plan::reaches::reach_by_facts` meets its contract. Assumes nothing.
use Rattle.std.proofs.Common.{rules}
use Rattle.plan.proofs.Passing.{reach_transparent, reach-calling, reach_keeping}
use Rattle.plan.proofs.reaches.reach_by_facts.Goals as goal
use Rattle.linefacts.proofs.Lacking.{number_fits}

pub is_transparent-requires : goal.is_transparent-requires
is_transparent-requires c = search (rules, number_fits)

pub returns-then-is_transparent : goal.returns-then-is_transparent
returns-then-is_transparent c = search (rules, reach_transparent)

pub is_calling-requires : goal.is_calling-requires
is_calling-requires c = search (rules, number_fits)

pub returns-then-is_volatile : goal.returns-then-is_volatile
returns-then-is_volatile c = search (rules, reach-calling)

pub returns-else-is_volatile : goal.returns-else-is_volatile
returns-else-is_volatile c = search (rules, reach_keeping)
