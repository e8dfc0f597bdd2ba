-- `formula::profile::is_read` meets its contract. Assumes nothing.
use Rattle.std.proofs.Common.{rules}
use Rattle.formula.proofs.Whole.{nothing-consistent, read_so}
use Rattle.formula.proofs.profile.is_read.Goals as goal

pub evaluate-requires : goal.evaluate-requires
evaluate-requires c = (search rules, nothing-consistent _)

pub returns : goal.returns
returns c = search (rules, read_so)
