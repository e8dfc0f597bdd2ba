-- What the loop of `laborious::write_laborious` keeps true.
use Rattle.laborious.proofs.Writer.{Turn}
use Rattle.laborious.proofs.write_laborious.Given as goal

abbrev pub invariant-loop-i : goal.invariant-loop-i
invariant-loop-i l = Turn l.n l.initial.out l.out l.i
