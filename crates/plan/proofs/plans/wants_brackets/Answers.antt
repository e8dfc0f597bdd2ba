-- `plan::plans::wants_brackets` meets its contract. Assumes nothing.
use Rattle.std.proofs.Common.{rules}
use Rattle.joining.specs.Plan.{wants_brackets}
use Rattle.laws.proofs.Scans.{tests}
use Rattle.plan.proofs.plans.wants_brackets.Goals as goal

pub returns-then-is_bracketed : goal.returns-then-is_bracketed
unfolding wants_brackets
returns-then-is_bracketed c = search (rules, tests)

pub returns-else-is_bracketed : goal.returns-else-is_bracketed
unfolding wants_brackets
returns-else-is_bracketed c = search (rules, tests)
