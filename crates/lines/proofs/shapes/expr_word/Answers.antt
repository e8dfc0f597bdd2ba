-- `lines::shapes::expr_word` meets its contract. Assumes nothing.
use Rattle.lines.specs.Words.{without_last}
use Rattle.lines.proofs.shapes.Right.{at_cut, at_before, at_whole}
use mathlib.Core.Path.{ap, ◌∙◌}
use native.Mathlib.Omega.{arith}
use borrow.Author.Rules.{rules}
use Rattle.lines.proofs.shapes.expr_word.Goals.{else-x-via-then-x+else-k-x, else-x-via-else-x}
use Rattle.lines.proofs.shapes.expr_word.Goals as goal

pub returns-then-k-x : goal.returns-then-k-x
returns-then-k-x c = c.without_last.ensures ∙ ap without_last c.right_word-w.ensures ∙ at_cut c.requires.0 c.args.k c.if-x.true c.if-k-x.true

pub returns-else-x : goal.returns-else-x
returns-else-x c =
    elim c.else-x.branch [
      | else-x-via-then-x+else-k-x w ↦ c.right_word-w.ensures ∙ at_before c.requires.0 c.args.k w.if-x.true (omega (arith, c.requires.1, w.if-k-x.false))
      | else-x-via-else-x w ↦ c.right_word-w.ensures ∙ at_whole c.requires.0 c.args.k w.if-x.false (search rules)
    ]
