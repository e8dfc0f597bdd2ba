-- What the loop of `flow::gathering::gather_forms` keeps true: the table has the lines so far. Assumes nothing.
use Rattle.flow.proofs.Tables.{FilledTo}
use Rattle.flow.proofs.gathering.gather_forms.Given as goal

abbrev pub invariant-loop-k : goal.invariant-loop-k
invariant-loop-k l = FilledTo l.listing l.k l.forms
