-- What the loop of `test_replay::run` keeps true: a class has no more frames than the list has bytes.
use Prim.Native.Nat.{◌*◌, ◌≤◌}
use Rattle.test_replay.proofs.run.Given as goal

abbrev pub invariant-loop-class : goal.invariant-loop-class
invariant-loop-class l = (l.sum.calls ≤ l.class-index * 650000) × (l.sum.differ ≤ l.sum.calls)
