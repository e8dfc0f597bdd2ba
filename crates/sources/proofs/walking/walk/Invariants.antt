-- What the loop of `sources::walking::walk` keeps true.
use Rattle.reference.specs.Tape.{old}
use Rattle.tape.specs.Held.{unplaced}
use Rattle.tape.specs.Walk.{left}
use Rattle.sources.proofs.Walked.{Walking}
use Rattle.sources.proofs.walking.walk.Given as goal

-- the flags so far are those of the marks so far
abbrev pub invariant-loop-c : goal.invariant-loop-c
invariant-loop-c l = record { walking : Walking l.tape l.initial.flags (unplaced (left old l.c-iterator)) l.n l.flags }
