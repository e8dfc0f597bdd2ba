-- What the loop of `formula::breaches::open_behind` keeps true.
use Rattle.formula.proofs.Testing.{OpensBefore}
use Rattle.formula.proofs.breaches.open_behind.Given as goal

abbrev pub invariant-loop-w : goal.invariant-loop-w
invariant-loop-w l = OpensBefore l.line.texts.tape.now l.line.texts.area.now l.line.words.now l.w-index l.n
