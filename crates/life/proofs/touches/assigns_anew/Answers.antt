-- `life::touches::assigns_anew` meets its contract. Assumes nothing.
use borrow.Author.Rules.{rules}
use Rattle.life.proofs.Touching.{by_none, by_other, by_narrow, by_right}
use mathlib.Core.Path.{◌∙◌}
use Rattle.life.proofs.touches.assigns_anew.Goals as goal

pub returns-in_default : goal.returns-in_default
returns-in_default c = search (rules, by_none)

pub returns-then-n-lt32 : goal.returns-then-n-lt32
returns-then-n-lt32 c = search (rules, by_narrow)

pub returns-then-same_family : goal.returns-then-same_family
returns-then-same_family c = search (rules, by_right)

pub returns-else-same_family : goal.returns-else-same_family
returns-else-same_family c = c.if-same_family.false ∙ search (rules, by_other)
