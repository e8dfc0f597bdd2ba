-- `life::touches::kills` meets its contract. Assumes nothing.
use borrow.Author.Rules.{rules}
use Rattle.life.proofs.Touching.{kill_kill, kill_not}
use Rattle.life.proofs.touches.kills.Goals as goal

pub returns-in-Kill : goal.returns-in-Kill
returns-in-Kill c = search (rules, kill_kill)

pub returns-in_default : goal.returns-in_default
returns-in_default c = kill_not _ c.touch.ensures c.in_default.not-Kill
