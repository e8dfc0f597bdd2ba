-- What the loop of `test_start::replayed` keeps true, and what falls at each turn: each frame takes a byte or more of the list, and is counted once at most.
use Prim.Native.Nat.{◌+◌, ◌≤◌}
use lib.ListN.{length}
use Rattle.test_start.proofs.replayed.Given as goal

abbrev pub invariant-loop-n : goal.invariant-loop-n
invariant-loop-n l = (l.counts.calls + length l.left ≤ length l.list) × (l.counts.differ ≤ l.counts.calls)

abbrev pub decreases-loop-n : goal.decreases-loop-n
decreases-loop-n l = length l.left
