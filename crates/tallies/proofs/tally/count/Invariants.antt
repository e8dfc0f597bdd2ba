-- What the loop of `tallies::tally::count` keeps true: what is counted so far, with what is to come, is the tape's, and fits.
use Rattle.std.proofs.Common.{◌≡◌, ◌+◌, ◌≤◌, length}
use Rattle.reference.specs.Tape.{old}
use Rattle.tape.specs.Held.{commands, unplaced}
use Rattle.tape.specs.Walk.{left}
use Rattle.tape.proofs.walk.Spending.{bytes_of}
use Rattle.tallies.proofs.tally.count.Given as goal

abbrev pub invariant-loop-c : goal.invariant-loop-c
invariant-loop-c g l =
    record {
      told : g.T.Tally.total l.so_far (unplaced (left old l.c-iterator)) ≡ g.T.Tally.total l.fn.start (commands l.tape);
      few : g.T.Tally.spent l.so_far + bytes_of (unplaced (left old l.c-iterator)) ≤ length l.tape;
    }
