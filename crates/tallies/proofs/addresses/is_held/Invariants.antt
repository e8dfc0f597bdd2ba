-- What the loop of `tallies::addresses::is_held` keeps true: whether the last line's marks hold the addresses, and no earlier line's do.
use Rattle.reference.specs.Spans.{Span}
use Rattle.reference.specs.Tape.{old}
use Rattle.tape.specs.Held.{unplaced}
use Rattle.tape.specs.Walk.{left}
use Rattle.tallies.specs.Counting.{is_held}
use Rattle.tallies.proofs.Holding.{Found}
use Rattle.tallies.proofs.addresses.is_held.Given as goal

abbrev pub invariant-loop-c : goal.invariant-loop-c
invariant-loop-c l =
    let s : Span = record { lowest = l.low; highest = l.high } in Found s (is_held l.tape s) l.begun l.holds (unplaced (left old l.c-iterator))
