-- What the loop of `raising::noting::forget` keeps true: the lines before line k tell nothing any more. Assumes nothing.
use Rattle.std.proofs.Common.{◌≡◌, length}
use Rattle.raising.specs.Noting.{Forgotten}
use Rattle.raising.proofs.noting.forget.Given as goal

abbrev pub invariant-loop-k : goal.invariant-loop-k
invariant-loop-k l = Forgotten l.a l.k l.initial.parts l.parts × (length l.parts ≡ length l.initial.parts)
