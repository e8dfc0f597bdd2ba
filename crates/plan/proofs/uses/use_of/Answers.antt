-- `plan::uses::use_of` meets its contract. Assumes nothing.
use borrow.Author.Rules.{rules}
use Rattle.plan.proofs.Looking.{seeking}
use Rattle.plan.proofs.uses.use_of.Goals as goal

pub loop-j-init : goal.loop-j-init
loop-j-init c = search (rules, seeking)

pub returns-in-Use : goal.returns-in-Use
returns-in-Use c = search (rules, seeking)

pub returns-in-Stops : goal.returns-in-Stops
returns-in-Stops c = search (rules, seeking)

pub loop-j-preserved : goal.loop-j-preserved
loop-j-preserved c = search (rules, seeking)

pub returns : goal.returns
returns c = search (rules, seeking)
