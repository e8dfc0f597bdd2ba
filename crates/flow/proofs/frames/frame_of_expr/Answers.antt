-- `flow::frames::frame_of_expr` meets its contract. Assumes nothing.
use native.Mathlib.Omega.{arith}
use mathlib.Core.Path.{◌∙◌}
use Rattle.cautions.specs.Texts.{frame}
use Rattle.lines.specs.Shapes.{expr_words}
use Rattle.lines.specs.Texts.{tokens_of}
use Rattle.lines.proofs.shapes.Right.{expr-length, expr-points}
use Rattle.flow.proofs.Framing.{none_framed, none_below, next_token, no_token, below_more}
use Rattle.flow.proofs.frames.frame_of_expr.Goals as goal

pub loop-k-init : goal.loop-k-init
loop-k-init c = (none_framed (frame (tokens_of c.args.texts.now (expr_words c.args.line.now c.args.x))), none_below)

pub with_token-f-requires : goal.with_token-f-requires
with_token-f-requires c =
    let a = c.args in
    let x = c.requires.1 in
    (below_more _ c.loop-k.invariant.1 (omega (arith, x.inside)), expr-points c.requires.0 x c.loop-k-test.true c.expr_word.ensures)

pub loop-k-preserved : goal.loop-k-preserved
loop-k-preserved c =
    let a = c.args in
    let t = a.texts.now in
    let l = c.loop-k in
    let h = expr-length c.requires.1 in (
      c.with_token-f.ensures.is _ ∙ rw (c.expr_word.ensures, next_token t.tape.now t.area.now (expr_words a.line.now a.x) l.k (omega (arith, h))) l.invariant.0,
      below_more _ (c.with_token-f.ensures.few _ l.invariant.1) (omega arith),
    )

pub returns : goal.returns
returns c =
    let a = c.args in
    let t = a.texts.now in
    let h = expr-length c.requires.1 in
    c.ended.ensures ∙ rw (no_token t.tape.now t.area.now (expr_words a.line.now a.x) c.loop-k.k (omega (arith, h))) at c.loop-k.invariant.0
