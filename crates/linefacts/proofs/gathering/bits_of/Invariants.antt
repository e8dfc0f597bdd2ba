-- What the loop of `linefacts::gathering::bits_of` keeps true: the bits of the words so far. Assumes nothing.
use Rattle.std.proofs.Common.{ℕ, take}
use Rattle.reference.specs.Lists.{any}
use Rattle.lines.specs.Texts.{tokens_of}
use Rattle.linefacts.specs.Gathering.{seen_by, Bits}
use Rattle.linefacts.proofs.gathering.bits_of.Given as goal

abbrev pub invariant-loop-w : goal.invariant-loop-w
invariant-loop-w l = Bits l.has (λ (i : ℕ). any (seen_by i) (tokens_of l.texts (take l.w-index l.line)))
