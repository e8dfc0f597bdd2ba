-- What the loop of `start::reckoning::run` keeps true.
use Rattle.start.proofs.Running.{Running}
use Rattle.start.proofs.reckoning.run.Given as goal

abbrev pub invariant-loop-line : goal.invariant-loop-line
invariant-loop-line l = Running l.formula.texts.tape.now l.formula.texts.area.now l.formula.tokens.now l.formula.lines.now l.initial.values l.line-index l.values
