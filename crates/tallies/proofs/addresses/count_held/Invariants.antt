-- What the loop of `tallies::addresses::count_held` keeps true: what is counted so far, with what is to come, is the tape's.
use Rattle.reference.specs.Tape.{old}
use Rattle.tape.specs.Held.{commands, unplaced}
use Rattle.tape.specs.Walk.{left}
use Rattle.tallies.specs.Counting.{is_held, spans_in}
use Rattle.tallies.proofs.Holding.{Counted}
use Rattle.tallies.proofs.addresses.count_held.Given as goal

abbrev pub invariant-loop-c : goal.invariant-loop-c
invariant-loop-c l =
    Counted (is_held l.cleaned) (spans_in (commands l.raw)) l.so_far.all l.so_far.held (unplaced (left old l.c-iterator))
