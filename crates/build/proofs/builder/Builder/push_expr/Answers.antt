-- `build::builder::Builder::push_expr` meets its contract. Assumes nothing.
use Prim.Native.Nat.{◌+◌, ◌<◌}
use native.Mathlib.Omega.{arith}
use lib.ListN.{length, drop}
use lib.Seq.{take_all}
use Rattle.lines.specs.Words.{tokens_of}
use Rattle.lines.specs.Shapes.{expr_words}
use Rattle.lines.proofs.shapes.Right.{expr-length, expr-points}
use Rattle.build.proofs.Pushes.{pushed_none, pushed_then, ready_then, tokens_more, tokens-split}
use Rattle.build.proofs.Lending.{lent_same, lent_then}
use Rattle.build.proofs.builder.Builder.push_expr.Goals as goal

pub loop-k-init : goal.loop-k-init
loop-k-init c = record { pushed = pushed_none c.requires.2; lent = lent_same }

pub push-requires : goal.push-requires
push-requires c =
    let l = c.loop-k in
    let i = l.invariant in
    let p = c.requires in
    let ws = expr_words c.args.source.now c.args.x in
    let h : l.k < length ws = omega (arith, expr-length p.1) in (
      expr-points p.0 p.1 (omega arith) c.expr_word.ensures,
      rw c.expr_word.ensures (ready_then i.pushed _ (tokens_of _ _ (drop (l.k + 1) ws)) p.2.room (tokens-split _ _ ws l.k h) i.lent.area_length i.lent.tokens_length),
    )

pub loop-k-preserved : goal.loop-k-preserved
loop-k-preserved c =
    let l = c.loop-k in
    let i = l.invariant in
    let e = c.push.ensures in
    let ws = expr_words c.args.source.now c.args.x in
    let h : l.k < length ws = omega (arith, expr-length c.requires.1) in
    record {
      pushed = rw (tokens_more _ _ ws l.k h) (pushed_then i.pushed (rw c.expr_word.ensures at e.pushed));
      lent = lent_then i.lent e.lent;
    }

pub returns-clause-pushed : goal.returns-clause-pushed
returns-clause-pushed c =
    let ws = expr_words c.args.source.now c.args.x in
    rw (take_all c.loop-k.k ws (omega (arith, expr-length c.requires.1))) at c.loop-k.invariant.pushed
