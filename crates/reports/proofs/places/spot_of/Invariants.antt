-- What the loop of `reports::places::spot_of` keeps true: the spot so far goes on to the tape's, and its numbers fit.
use Rattle.std.proofs.Common.{◌≡◌, ◌+◌, ◌≤◌, length}
use Rattle.reference.specs.Tape.{old}
use Rattle.tape.specs.Held.{unplaced}
use Rattle.tape.specs.Walk.{left}
use Rattle.tape.proofs.walk.Spending.{bytes_of}
use Rattle.reports.specs.Places.{spot_from, spot_of}
use Rattle.reports.proofs.places.spot_of.Given as goal

abbrev pub invariant-loop-c : goal.invariant-loop-c
invariant-loop-c l =
    record {
      told : spot_from l.spot l.place (left old l.c-iterator) ≡ spot_of l.tape l.place;
      lines : l.spot.line + bytes_of (unplaced (left old l.c-iterator)) ≤ length l.tape;
      tokens : l.spot.token + bytes_of (unplaced (left old l.c-iterator)) ≤ length l.tape;
    }
