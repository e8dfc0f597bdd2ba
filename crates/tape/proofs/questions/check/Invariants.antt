-- What the loop of `tape::questions::check` keeps true, and what falls at each turn.
use Prim.Native.Nat.{◌-◌}
use mathlib.Core.Path.{◌≡◌}
use lib.ListN.{length}
use Rattle.tape.specs.Commands.{form_of}
use Rattle.tape.specs.Questions.{totals_of}
use Rattle.tape.proofs.questions.Reading.{ReadsBy}
use Rattle.tape.specs.contracts.questions.check as check
use denote.Param.{number}
use Rattle.tape.proofs.questions.check.Given as goal

-- The reader holds the tape, and the reading comes to its offset with the totals.
abbrev pub invariant-loop-step : goal.invariant-loop-step
invariant-loop-step g l = (l.reader.tape.now ≡ l.tape) × ReadsBy (form_of (check.BASED-type (number g.row.BASED))) l.reader.tape.now l.reader.at (totals_of l.totals)

abbrev pub decreases-loop-step : goal.decreases-loop-step
decreases-loop-step g l = length l.tape - l.reader.at
