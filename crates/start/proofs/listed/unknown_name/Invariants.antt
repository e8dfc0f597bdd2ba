-- What the loop of `start::listed::unknown_name` keeps true, and what falls at each turn.
use lib.ListN.{length}
use Rattle.start.proofs.Naming.{Searches}
use Rattle.start.proofs.listed.unknown_name.Given as goal

abbrev pub invariant-loop-entry : goal.invariant-loop-entry
invariant-loop-entry l = Searches l.list l.rest

abbrev pub decreases-loop-entry : goal.decreases-loop-entry
decreases-loop-entry l = length l.rest
