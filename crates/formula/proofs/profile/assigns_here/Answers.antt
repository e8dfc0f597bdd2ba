-- `formula::profile::assigns_here` meets its contract. Assumes nothing.
use Rattle.formula.proofs.Profiled.{here_other, here_assigns}
use Rattle.std.proofs.Common.{rules}
use Rattle.formula.proofs.profile.assigns_here.Goals as goal

pub returns-then-indent : goal.returns-then-indent
returns-then-indent c = search (rules, here_assigns)

pub returns-else-indent : goal.returns-else-indent
returns-else-indent c = search (rules, here_other)
