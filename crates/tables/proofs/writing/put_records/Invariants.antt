-- What the loop of `tables::writing::put_records` keeps true: the first lines are put, the others are to come.
use Rattle.tables.specs.Writing.{whole_line, marked_of}
use Rattle.tables.proofs.writing.Putting.{PutsFrom}
use Rattle.tables.proofs.writing.put_records.Given as goal

abbrev pub invariant-loop-line : goal.invariant-loop-line
invariant-loop-line l = PutsFrom (marked_of l.texts.tape.now l.texts.area.now l.tokens) whole_line l.records l.line-index l.initial.out l.out
