-- What the loop of `flow::frames::with_text` keeps true: the bytes so far are read. Assumes nothing.
use Rattle.std.proofs.Common.{ℕ, ◌≡◌, ◌+◌, ◌++◌, drop}
use Rattle.reference.specs.Text.{Text}
use Rattle.flow.specs.Frames.{framed, Below}
use Rattle.flow.proofs.frames.with_text.Given as goal

abbrev pub invariant-loop-b : goal.invariant-loop-b
invariant-loop-b l =
    ((more : Text) → framed l.g (drop l.b-index l.s ++ more) ≡ framed l.fn.f (l.s ++ more))
    × ((n : ℕ) → Below l.fn.f n → Below l.g (n + l.b-index))
