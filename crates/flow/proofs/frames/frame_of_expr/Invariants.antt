-- What the loop of `flow::frames::frame_of_expr` keeps true: the tokens so far are read. Assumes nothing.
use Rattle.std.proofs.Common.{◌≡◌, ◌*◌, drop}
use Rattle.cautions.specs.Texts.{frame}
use Rattle.lines.specs.Shapes.{expr_words}
use Rattle.lines.specs.Texts.{tokens_of}
use Rattle.flow.specs.Frames.{framed, seen_of, Below}
use Rattle.flow.proofs.frames.frame_of_expr.Given as goal

abbrev pub invariant-loop-k : goal.invariant-loop-k
invariant-loop-k l =
    (framed l.f (frame (tokens_of l.texts (drop l.k (expr_words l.line l.x)))) ≡ seen_of (frame (tokens_of l.texts (expr_words l.line l.x))))
    × Below l.f (65535 * l.k)
