-- What the loop of `solving::solve` keeps true.
use Rattle.std.proofs.Common.{◌-◌}
use Rattle.solving.proofs.Solving.{Halved}
use Rattle.solving.proofs.solve.Given as goal

abbrev pub invariant-loop-i : goal.invariant-loop-i
invariant-loop-i l = Halved 64 l.a l.c l.part l.rest (64 - l.i)
