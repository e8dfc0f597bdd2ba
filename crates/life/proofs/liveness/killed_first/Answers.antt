-- `life::liveness::killed_first` meets its contract. Assumes nothing.
use borrow.Author.Rules.{rules}
use Rattle.life.proofs.Scanning.{killed_dead, killed_live, killed_open, killed_end}
use Rattle.life.proofs.liveness.killed_first.Goals as goal

pub returns-in-Dead : goal.returns-in-Dead
returns-in-Dead c = search (rules, killed_dead)

pub returns-in-Live : goal.returns-in-Live
returns-in-Live c = search (rules, killed_live)

pub loop-l-preserved : goal.loop-l-preserved
loop-l-preserved c = search (rules, killed_open)

pub returns : goal.returns
returns c = search (rules, killed_end)
