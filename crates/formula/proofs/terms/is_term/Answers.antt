-- `formula::terms::is_term` meets its contract. Assumes nothing.
use Rattle.laws.proofs.Scans.{tests}
use Rattle.std.proofs.Common.{rules}
use Rattle.formula.proofs.terms.is_term.Goals as goal

pub returns-then-is_wide : goal.returns-then-is_wide
returns-then-is_wide c = search (rules, tests)

pub returns-else-is_wide : goal.returns-else-is_wide
returns-else-is_wide c = search (rules, tests)
