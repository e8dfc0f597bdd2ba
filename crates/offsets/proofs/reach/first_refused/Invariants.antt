-- What the loop of `offsets::reach::first_refused` keeps true.
use Rattle.std.proofs.Common.{◌≡◌}
use Rattle.tape.specs.Commands.{form_of}
use Rattle.tape.specs.Held.{places_by, first_where}
use Rattle.tape.specs.Walk.{left}
use Rattle.offsets.specs.Calls.{bad_for}
use Rattle.offsets.proofs.Searching.{bad_command}
use Rattle.offsets.specs.contracts.reach.first_refused as code
use denote.Param.{number}
use Rattle.offsets.proofs.reach.first_refused.Given as goal

-- the first such command is still to come
abbrev pub invariant-loop-c : goal.invariant-loop-c
invariant-loop-c g l =
    record {
      same : first_where (bad_command (bad_for (code.BASED-type (number g.row.BASED)) l.base)) (left (form_of (code.BASED-type (number g.row.BASED))) l.c-iterator)
          ≡ first_where (bad_command (bad_for (code.BASED-type (number g.row.BASED)) l.base)) (places_by (form_of (code.BASED-type (number g.row.BASED))) l.tape);
    }
