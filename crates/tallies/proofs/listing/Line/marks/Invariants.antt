-- What the loop of `tallies::listing::Line::marks` keeps true: the marks so far, with those to come, are the line's.
use Rattle.std.proofs.Common.{◌≡◌}
use Rattle.reference.specs.Tape.{old}
use Rattle.tape.specs.Held.{mark_of, unplaced}
use Rattle.tape.specs.Walk.{left}
use Rattle.tallies.specs.Lines.{marks_left, marks_shown}
use Rattle.tallies.proofs.listing.Line.marks.Given as goal

abbrev pub invariant-loop-c : goal.invariant-loop-c
invariant-loop-c l = mark_of (marks_shown l.marks) (unplaced (left old l.c-iterator)) ≡ marks_left l.self
