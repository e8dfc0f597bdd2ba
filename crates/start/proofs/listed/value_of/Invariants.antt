-- What the loop of `start::listed::value_of` keeps true, and what falls at each turn.
use lib.ListN.{length}
use Rattle.start.proofs.Entries.{Seeks}
use Rattle.start.proofs.listed.value_of.Given as goal

abbrev pub invariant-loop-entry : goal.invariant-loop-entry
invariant-loop-entry l = Seeks l.list l.name l.rest

abbrev pub decreases-loop-entry : goal.decreases-loop-entry
decreases-loop-entry l = length l.rest
