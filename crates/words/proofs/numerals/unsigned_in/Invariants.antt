-- What the loop of `words::numerals::unsigned_in` keeps true.
use Rattle.std.proofs.Common.{◌≡◌, ◌<◌, ◌^◌, drop}
use Rattle.words.specs.Numerals.{digits_from, within_64}
use Rattle.words.proofs.numerals.unsigned_in.Given as goal

abbrev pub invariant-loop-b : goal.invariant-loop-b
invariant-loop-b l = (l.v < 2 ^ 64) × (within_64 (digits_from l.base 0 l.word) ≡ within_64 (digits_from l.base l.v (drop l.b-index l.word)))
