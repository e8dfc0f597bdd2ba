-- What the loop of `offsets::writing::put_commands` keeps true.
use Rattle.tape.specs.Commands.{form_of}
use Rattle.tape.specs.Held.{places_by}
use Rattle.tape.specs.Walk.{left}
use Rattle.reference.proofs.Limits.{All}
use Rattle.tape.proofs.walk.Loops.{Putting}
use Rattle.offsets.proofs.Putting.{bytes_of, Movable}
use Rattle.offsets.specs.contracts.writing.put_commands as code
use denote.Param.{number}
use Rattle.offsets.proofs.writing.put_commands.Given as goal

abbrev pub invariant-loop-c : goal.invariant-loop-c
invariant-loop-c g l =
    record {
      put : Putting (bytes_of (code.BASED-type (number g.row.BASED)) l.base l.tape) (places_by (form_of (code.BASED-type (number g.row.BASED))) l.tape)
          l.initial.out l.out (left (form_of (code.BASED-type (number g.row.BASED))) l.c-iterator);
      each : All (Movable (code.BASED-type (number g.row.BASED)) l.base l.tape) (left (form_of (code.BASED-type (number g.row.BASED))) l.c-iterator);
    }
