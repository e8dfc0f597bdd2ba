-- `life::jumps::is_do` meets its contract. Assumes nothing.
use borrow.Author.Rules.{rules}
use Rattle.life.proofs.Jumping.{do_other, do_here}
use borrow.Author.Tests.{ne_eqb}
use mathlib.Core.Path.{◌∙◌}
use Rattle.life.proofs.jumps.is_do.Goals as goal

pub returns-then-indent : goal.returns-then-indent
returns-then-indent c = search (rules, do_here)

pub returns-else-indent : goal.returns-else-indent
returns-else-indent c = ne_eqb _ _ c.if-indent.false ∙ search (rules, do_other)
