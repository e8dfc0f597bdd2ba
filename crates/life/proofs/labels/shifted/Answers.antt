-- `life::labels::shifted` meets its contract. Assumes nothing.
use borrow.Author.Rules.{rules}
use Rattle.life.proofs.Places.{shifted_up, shifted_not}
use Rattle.life.proofs.labels.shifted.Goals as goal

pub returns-then-i-place : goal.returns-then-i-place
returns-then-i-place c = shifted_up (search rules)

pub returns-else-i-place : goal.returns-else-i-place
returns-else-i-place c = shifted_not (search rules)
