-- What the loop of `solving::solve_odd` keeps true.
use Rattle.solving.proofs.Solving.{Turn}
use Rattle.solving.proofs.solve_odd.Given as goal

abbrev pub invariant-loop-i : goal.invariant-loop-i
invariant-loop-i l = Turn 63 l.a l.c l.n l._i l.x l.bit l.rest
