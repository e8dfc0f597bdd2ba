-- What the loop of `tallies::staying::calls_stay` keeps true: a name whose calls are all asked stays.
use Rattle.reference.specs.Tape.{old}
use Rattle.tape.specs.Held.{held, unplaced}
use Rattle.tape.specs.Walk.{left}
use Rattle.tallies.proofs.Callees.{Asked}
use Rattle.tallies.proofs.staying.calls_stay.Given as goal

abbrev pub invariant-loop-c : goal.invariant-loop-c
invariant-loop-c l = Asked (held l.raw) (held l.cleaned) l.symbol (unplaced (left old l.c-iterator))
