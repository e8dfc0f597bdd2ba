-- What the loop of `editions::questions::first_place` keeps true.
use Rattle.std.proofs.Common.{◌≡◌}
use Rattle.reference.specs.Tape.{old}
use Rattle.tape.specs.Held.{places, first_where}
use Rattle.tape.specs.Walk.{left}
use Rattle.editions.proofs.Asking.{earning}
use Rattle.editions.specs.contracts.questions.first_place as code
use denote.Param.{number}
use Rattle.editions.proofs.questions.first_place.Given as goal

-- the leftmost is still to come
abbrev pub invariant-loop-c : goal.invariant-loop-c
invariant-loop-c g l =
    record {
      same : first_where (earning (code.UP-type (number g.row.UP))) (left old l.c-iterator)
          ≡ first_where (earning (code.UP-type (number g.row.UP))) (places l.tape);
    }
