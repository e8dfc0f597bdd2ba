-- What the loop of `text::copying::copy` keeps true: what it has done is the front of the one slice.
use Rattle.std.proofs.Common.{◌≡◌, length, take}
use Rattle.text.proofs.copying.copy.Given as goal

abbrev pub invariant-loop-i : goal.invariant-loop-i
invariant-loop-i g l = (length l.to ≡ length l.from) × (take l.i l.to ≡ take l.i l.from)
