-- What the loop of `flow::frames::frame_of` keeps true: the tokens so far are read. Assumes nothing.
use Rattle.std.proofs.Common.{◌≡◌, ◌*◌, drop}
use Rattle.cautions.specs.Texts.{frame}
use Rattle.lines.specs.Texts.{tokens_of}
use Rattle.flow.specs.Frames.{framed, seen_of, Below}
use Rattle.flow.proofs.frames.frame_of.Given as goal

abbrev pub invariant-loop-w : goal.invariant-loop-w
invariant-loop-w l =
    (framed l.f (frame (tokens_of l.texts (drop l.w-index l.ws))) ≡ seen_of (frame (tokens_of l.texts l.ws)))
    × Below l.f (65535 * l.w-index)
