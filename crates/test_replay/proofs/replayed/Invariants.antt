-- What the loops of `test_replay::replayed` keep true, and what falls at each turn.
use Prim.Native.Nat.{◌+◌, ◌≤◌}
use mathlib.Core.Path.{◌≡◌}
use lib.ListN.{length}
use Rattle.test_replay.specs.Tallies.{replayed, tally}
use Rattle.test_replay.proofs.replayed.Given as goal

abbrev pub invariant-loop-n : goal.invariant-loop-n
invariant-loop-n l = (replayed l.list l.class ≡ tally (length l.left) l.left l.class l.counts) × (l.counts.calls + length l.left ≤ length l.list) × (l.counts.differ ≤ l.counts.calls)

abbrev pub decreases-loop-n : goal.decreases-loop-n
decreases-loop-n l = length l.left
