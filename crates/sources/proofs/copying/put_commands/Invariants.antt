-- What the loop of `sources::copying::put_commands` keeps true.
use Prim.Native.Nat.{◌+◌, ◌≤◌}
use lib.ListN.{length}
use Rattle.reference.specs.Tape.{old}
use Rattle.reference.proofs.Limits.{All}
use Rattle.tape.specs.Held.{commands, unplaced, lines_of}
use Rattle.tape.specs.Walk.{left}
use Rattle.tape.proofs.walk.Accepted.{CommandFitsBy}
use Rattle.tape.proofs.walk.Loops.{Coming}
use Rattle.sources.proofs.Putting.{all_copied}
use Rattle.sources.proofs.copying.put_commands.Given as goal

-- the copy of the commands so far stands in the output, n lines have begun, and at most 256 do
abbrev pub invariant-loop-c : goal.invariant-loop-c
invariant-loop-c l =
    record {
      put : Coming l.initial.out (all_copied l.k 0 (commands l.tape)) l.out (all_copied l.k l.n (unplaced (left old l.c-iterator)));
      each : All (CommandFitsBy old) (unplaced (left old l.c-iterator));
      few : l.n + length (lines_of (unplaced (left old l.c-iterator))) ≤ 256;
    }
