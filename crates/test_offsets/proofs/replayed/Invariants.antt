-- What the loop of `test_offsets::replayed` keeps true, and what falls at each turn: each frame counted took a byte or more.
use Prim.Native.Nat.{◌+◌, ◌≤◌}
use lib.ListN.{length}
use Rattle.test_offsets.proofs.replayed.Given as goal

abbrev pub invariant-loop-frame : goal.invariant-loop-frame
invariant-loop-frame l =
    (l.ways.there.calls + length l.left ≤ length l.list) × (l.ways.there.differ ≤ l.ways.there.calls)
    × (l.ways.back.calls + length l.left ≤ length l.list) × (l.ways.back.differ ≤ l.ways.back.calls)

abbrev pub decreases-loop-frame : goal.decreases-loop-frame
decreases-loop-frame l = length l.left
