-- `flow::frames::frame_of` meets its contract. Assumes nothing.
use native.Mathlib.Omega.{arith}
use mathlib.Core.Path.{◌∙◌}
use Rattle.cautions.specs.Texts.{frame}
use Rattle.lines.specs.Texts.{tokens_of}
use Rattle.flow.proofs.Framing.{none_framed, none_below, next_token, no_token, below_more}
use Rattle.flow.proofs.frames.frame_of.Goals as goal

pub loop-w-init : goal.loop-w-init
loop-w-init c = (none_framed (frame (tokens_of c.args.texts.now c.args.ws.now)), none_below)

pub loop-w-preserved : goal.loop-w-preserved
loop-w-preserved c =
    let a = c.args in
    let t = a.texts.now in
    let l = c.loop-w in (
      c.with_token-f.ensures.is _ ∙ rw (next_token t.tape.now t.area.now a.ws.now l.w-index (omega arith)) l.invariant.0,
      below_more _ (c.with_token-f.ensures.few _ l.invariant.1) (omega arith),
    )

pub returns : goal.returns
returns c =
    let t = c.args.texts.now in
    c.ended.ensures ∙ rw (no_token t.tape.now t.area.now c.args.ws.now c.loop-w.w-index c.loop-w-test.false) at c.loop-w.invariant.0
