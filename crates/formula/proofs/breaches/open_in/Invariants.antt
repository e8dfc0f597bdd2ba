-- What the loop of `formula::breaches::open_in` keeps true.
use Rattle.formula.proofs.Testing.{Opens}
use Rattle.formula.proofs.breaches.open_in.Given as goal

abbrev pub invariant-loop-b : goal.invariant-loop-b
invariant-loop-b l = Opens l.s l.start l.b-index l.n
