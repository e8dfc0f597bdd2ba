-- `life::dead::returns_at` meets its contract. Assumes nothing.
use borrow.Author.Rules.{rules}
use Rattle.life.proofs.Scanning.{returns_deep, returns_here}
use borrow.Author.Tests.{lt-leb}
use mathlib.Core.Path.{◌∙◌}
use Rattle.life.proofs.dead.returns_at.Goals as goal

pub returns-then-indent-base_indent : goal.returns-then-indent-base_indent
returns-then-indent-base_indent c = search (rules, returns_here)

pub returns-else-indent-base_indent : goal.returns-else-indent-base_indent
returns-else-indent-base_indent c = lt-leb _ _ c.if-indent-base_indent.false ∙ search (rules, returns_deep)
