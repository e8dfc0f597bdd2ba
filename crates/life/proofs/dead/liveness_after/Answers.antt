-- `life::dead::liveness_after` meets its contract. Assumes nothing.
use borrow.Author.Rules.{rules}
use Rattle.life.proofs.Scanning.{after_while, after-loop, after_goto, after-scan}
use Rattle.life.proofs.dead.liveness_after.Goals as goal

pub returns-then-while_passes : goal.returns-then-while_passes
returns-then-while_passes c = search (rules, after_while c.args.scope.now.listing.lines.now)

pub returns-else-while_passes : goal.returns-else-while_passes
returns-else-while_passes c = search (rules, after-loop c.args.scope.now.listing.lines.now)

pub returns-then-goto_passes : goal.returns-then-goto_passes
returns-then-goto_passes c = search (rules, after-scan c.args.scope.now.listing.lines.now)

pub returns-else-goto_passes : goal.returns-else-goto_passes
returns-else-goto_passes c = search (rules, after_goto c.args.scope.now.listing.lines.now)
