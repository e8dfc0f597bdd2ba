-- What the loop of `replays::sum` keeps true.
use Prim.Native.Nat.{◌<◌}
use Rattle.replays.proofs.sum.Given as goal

abbrev pub invariant-loop-byte : goal.invariant-loop-byte
invariant-loop-byte l = l.h < 4294967296
