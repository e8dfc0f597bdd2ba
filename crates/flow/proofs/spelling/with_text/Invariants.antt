-- What the loop of `flow::spelling::with_text` keeps true: the bytes so far are read. Assumes nothing.
use Rattle.std.proofs.Common.{ℕ, ◌≡◌, ◌+◌, ◌++◌, drop}
use Rattle.reference.specs.Text.{Text}
use Rattle.flow.specs.Spelling.{spelled, Short}
use Rattle.flow.proofs.spelling.with_text.Given as goal

abbrev pub invariant-loop-b : goal.invariant-loop-b
invariant-loop-b l =
    ((more : Text) → spelled l.g (drop l.b-index l.s ++ more) ≡ spelled l.fn.f (l.s ++ more))
    × ((n : ℕ) → Short l.fn.f n → Short l.g (n + l.b-index))
