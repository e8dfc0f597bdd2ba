-- `usefacts::copies::copy_expr` meets its contract. Assumes nothing.
use native.Mathlib.Omega.{arith}
use mathlib.Core.Path.{◌≡◌, ◌∙◌}
use lib.ListN.{length-set}
use lib.Seq.{take_all}
use Rattle.lines.specs.Shapes.{expr_words}
use Rattle.lines.proofs.shapes.Right.{expr-length}
use Rattle.usefacts.proofs.Copying.{copied_more}
use Rattle.usefacts.proofs.copies.copy_expr.Goals as goal

pub loop-k-preserved : goal.loop-k-preserved
loop-k-preserved c =
    let l = c.loop-k in
    let h = expr-length c.requires.0 in (
      copied_more l.out (expr_words c.args.line.now c.args.x) l.k (omega (arith, c.requires.1, l.invariant.1, c.loop-k-test.true)) (omega (arith, h, c.loop-k-test.true))
          c.expr_word.ensures l.invariant.0,
      length-set l.out l.k c.expr_word.result ∙ l.invariant.1,
      omega (arith, c.loop-k-test.true),
    )

pub returns-clause-words : goal.returns-clause-words
returns-clause-words c =
    let l = c.loop-k in
    let h = expr-length c.requires.0 in
    let e : l.k ≡ c.args.x.count = omega (arith, l.invariant.2, c.loop-k-test.false) in
    (rw e at l.invariant.0) ∙ take_all c.args.x.count (expr_words c.args.line.now c.args.x) (omega (arith, h))
