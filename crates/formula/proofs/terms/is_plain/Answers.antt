-- `formula::terms::is_plain` meets its contract. Assumes nothing.
use Rattle.laws.proofs.Scans.{tests}
use Rattle.formula.specs.Terms.{is_plain}
use Rattle.std.proofs.Common.{rules}
use Rattle.formula.proofs.terms.is_plain.Goals as goal

pub returns-then-starts : goal.returns-then-starts
unfolding is_plain
returns-then-starts c = search (rules, tests)

pub returns-then-not-starts : goal.returns-then-not-starts
unfolding is_plain
returns-then-not-starts c = search (rules, tests)

pub returns-else-not-starts : goal.returns-else-not-starts
unfolding is_plain
returns-else-not-starts c = search (rules, tests)
