-- What the loop of `tallies::listing::Lines::next` keeps true: no line began so far.
use Rattle.std.proofs.Common.{◌≡◌, length}
use Rattle.reference.specs.Tape.{old}
use Rattle.tape.specs.Walk.{left}
use Rattle.tallies.specs.Lines.{lines_left}
use Rattle.tallies.proofs.listing.LinesIterator.next.Given as goal

abbrev pub invariant-loop-c : goal.invariant-loop-c
invariant-loop-c l = lines_left l.self ≡ lines_left l.initial.self

abbrev pub decreases-loop-c : goal.decreases-loop-c
decreases-loop-c l = length (left old l.self.commands)
