-- `life::dead::dead_after` meets its contract. Assumes nothing.
use borrow.Author.Rules.{rules}
use Rattle.life.proofs.Scanning.{dead_begin, dead-dead, dead-live, dead_open, dead_end}
use Rattle.life.proofs.dead.dead_after.Goals as goal

pub loop-w-init : goal.loop-w-init
loop-w-init c = dead_begin _ _ _ c.args.scope.now.listing.lines.now _ _ _ _ _ c.args.from

pub returns-in-Dead : goal.returns-in-Dead
returns-in-Dead c = search (rules, dead-dead)

pub returns-in-Live : goal.returns-in-Live
returns-in-Live c = search (rules, dead-live)

pub loop-w-preserved : goal.loop-w-preserved
loop-w-preserved c = search (dead_open, c.loop-w.invariant, c.loop-w-test.true, c.liveness_by_facts.ensures, c.in-Open.is)

pub returns : goal.returns
returns c = search (rules, dead_end)
