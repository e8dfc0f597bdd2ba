-- What the loops of `words::splitting::number_of` keep true, and what falls at each turn.
use Rattle.words.specs.Splitting.{split, number_of}
use lib.ListN.{length, drop}
use mathlib.Core.Path.{◌≡◌}
use Prim.Native.Nat.{◌≤◌, ◌+◌, ◌-◌}
use Rattle.words.proofs.splitting.number_of.Given as goal

abbrev pub invariant-loop-at : goal.invariant-loop-at
invariant-loop-at l = (l.at ≤ length l.row + 1) × (l.n ≤ l.at) × (number_of (split l.row) l.word ≡ l.n + number_of (split (drop l.at l.row)) l.word)

abbrev pub decreases-loop-at : goal.decreases-loop-at
decreases-loop-at l = length l.row + 1 - l.at
