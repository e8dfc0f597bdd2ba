-- What the loop of `tallies::addresses::first_addressed` keeps true: no line so far has an address, and their number fits.
use Rattle.std.proofs.Common.{◌≡◌, ◌+◌, ◌≤◌, length}
use Rattle.reference.specs.Tape.{old}
use Rattle.tape.specs.Held.{held, lines_of, unplaced}
use Rattle.tape.specs.Walk.{left}
use Rattle.tape.proofs.walk.Spending.{bytes_of}
use Rattle.tallies.proofs.Addressing.{first_line, first_from}
use Rattle.tallies.proofs.addresses.first_addressed.Given as goal

abbrev pub invariant-loop-c : goal.invariant-loop-c
invariant-loop-c l =
    record {
      told : first_from l.n (lines_of (unplaced (left old l.c-iterator))) ≡ first_line (held l.tape);
      few : l.n + bytes_of (unplaced (left old l.c-iterator)) ≤ length l.tape;
    }
