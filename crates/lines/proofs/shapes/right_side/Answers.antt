-- `lines::shapes::right_side` meets its contract. Assumes nothing.
use borrow.Author.Rules.{rules}
use Rattle.lines.proofs.shapes.Sides.{sides}
use Rattle.lines.proofs.shapes.right_side.Goals as goal

pub returns-then-n-first : goal.returns-then-n-first
returns-then-n-first c = search (rules, sides)

pub has-requires : goal.has-requires
has-requires c = search (rules, sides)

pub returns-then-not-has : goal.returns-then-not-has
returns-then-not-has c = search (rules, sides)

pub returns-then-len-ne1 : goal.returns-then-len-ne1
returns-then-len-ne1 c = search (rules, sides)

pub returns-then-n-first-2 : goal.returns-then-n-first-2
returns-then-n-first-2 c = search (rules, sides)

pub returns : goal.returns
returns c = search (rules, sides)
