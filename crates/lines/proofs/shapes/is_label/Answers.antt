-- `lines::shapes::is_label` meets its contract. Assumes nothing.
use native.Mathlib.Omega.{arith}
use borrow.Author.Rules.{rules}
use Rattle.laws.proofs.Scans.{tests}
use Rattle.lines.proofs.shapes.Tests.{kinds}
use Rattle.lines.proofs.shapes.Counted.{label-not, label_two}
use Rattle.lines.proofs.shapes.is_label.Goals as goal

pub returns-in_default : goal.returns-in_default
returns-in_default c = let a = c.args in label-not _ _ a.line.now (λ e. let h = c.in_default.len_below in omega arith)

pub returns-in_default-2 : goal.returns-in_default-2
returns-in_default-2 c = let a = c.args in label-not _ _ a.line.now (λ e. let h = c.in_default.len_at_least in omega arith)

pub returns-then-has : goal.returns-then-has
returns-then-has c = let a = c.args in rw (label_two _ _ a.line.now (search rules)) (search (rules, tests, kinds))

pub returns-else-has : goal.returns-else-has
returns-else-has c = let a = c.args in rw (label_two _ _ a.line.now (search rules)) (search (rules, tests))
