-- `life::touches::uses` meets its contract. Assumes nothing.
use borrow.Author.Rules.{rules}
use Rattle.life.proofs.Touching.{use_use, use_not}
use Rattle.life.proofs.touches.uses.Goals as goal

pub returns-in-Use : goal.returns-in-Use
returns-in-Use c = search (rules, use_use)

pub returns-in_default : goal.returns-in_default
returns-in_default c = use_not _ c.touch.ensures c.in_default.not-Use
