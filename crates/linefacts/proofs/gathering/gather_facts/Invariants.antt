-- What the loop of `linefacts::gathering::gather_facts` keeps true: each line is as it was, or with its facts. Assumes nothing.
use Rattle.linefacts.specs.Gathering.{AllNoted}
use Rattle.linefacts.proofs.gathering.gather_facts.Given as goal

abbrev pub invariant-loop-l : goal.invariant-loop-l
invariant-loop-l l = AllNoted l.texts.tape.now l.texts.area.now l.tokens l.initial.lines l.lines
