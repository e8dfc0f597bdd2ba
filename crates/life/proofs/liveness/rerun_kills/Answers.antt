-- `life::liveness::rerun_kills` meets its contract. Assumes nothing.
use borrow.Author.Rules.{rules}
use Rattle.life.proofs.Scanning.{rerun_part}
use Rattle.life.proofs.liveness.rerun_kills.Goals as goal

pub returns : goal.returns
returns c = search (rules, rerun_part)
