-- What the loop of `editions::writing::lower` keeps true.
use Rattle.reference.specs.Tape.{old}
use Rattle.reference.proofs.Limits.{All}
use Rattle.tape.specs.Held.{places}
use Rattle.tape.specs.Walk.{left}
use Rattle.tape.proofs.walk.Loops.{Putting}
use Rattle.editions.proofs.Copying.{lowered, Fitting, Older}
use Rattle.editions.proofs.writing.lower.Given as goal

abbrev pub invariant-loop-c : goal.invariant-loop-c
invariant-loop-c l =
    record {
      put : Putting lowered (places l.tape) l.initial.out l.out (left old l.c-iterator);
      fit : All Fitting (left old l.c-iterator);
      older : All Older (left old l.c-iterator);
    }
