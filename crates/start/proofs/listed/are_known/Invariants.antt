-- What the loop of `start::listed::are_known` keeps true, and what falls at each turn.
use lib.ListN.{length}
use Rattle.start.proofs.Entries.{Knows}
use Rattle.start.proofs.listed.are_known.Given as goal

abbrev pub invariant-loop-entry : goal.invariant-loop-entry
invariant-loop-entry l = Knows l.list l.rest

abbrev pub decreases-loop-entry : goal.decreases-loop-entry
decreases-loop-entry l = length l.rest
