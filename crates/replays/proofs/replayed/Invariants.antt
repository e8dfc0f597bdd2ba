-- What the loop of `replays::replayed` keeps true, and what falls at each turn: each frame takes a byte or more of the list, and is counted once at most.
use Prim.Native.Nat.{◌+◌, ◌≤◌}
use lib.ListN.{length}
use Rattle.replays.proofs.replayed.Given as goal

abbrev pub invariant-loop-frame : goal.invariant-loop-frame
invariant-loop-frame g l =
    goal.F-IsAlwaysCallable g l.does × (l.counts.calls + length l.left ≤ length l.list) × (l.counts.differ ≤ l.counts.calls)

abbrev pub decreases-loop-frame : goal.decreases-loop-frame
decreases-loop-frame g l = length l.left
