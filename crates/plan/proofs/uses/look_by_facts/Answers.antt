-- `plan::uses::look_by_facts` meets its contract. Assumes nothing.
use Rattle.std.proofs.Common.{rules}
use Rattle.linefacts.proofs.Lacking.{number_fits}
use Rattle.plan.proofs.Passing.{calling-stops, transparent_calls, transparent_apart, transparent_passes, transparent_stops}
use borrow.Author.Tests.{not-true, not-false}
use Rattle.plan.proofs.uses.look_by_facts.Goals as goal
use Rattle.plan.proofs.uses.look_by_facts.Goals.{else-not-d-via-then-not-d+then-indent+else-leaves_inputs, else-not-d-via-then-not-d+else-indent, else-not-d-via-else-not-d}

pub is_calling-requires : goal.is_calling-requires
is_calling-requires c = search (rules, number_fits)

pub returns-then-is_calling : goal.returns-then-is_calling
returns-then-is_calling c = search (rules, calling-stops)

pub is_transparent-requires : goal.is_transparent-requires
is_transparent-requires c = search (rules, number_fits)

pub returns-then-leaves_inputs : goal.returns-then-leaves_inputs
returns-then-leaves_inputs c = search (rules, not-true, not-false, transparent_passes)

pub returns-else-not-d : goal.returns-else-not-d
returns-else-not-d c =
    elim c.else-not-d.branch [
      | else-not-d-via-then-not-d+then-indent+else-leaves_inputs w ↦ search (rules, not-true, not-false, transparent_stops)
      | else-not-d-via-then-not-d+else-indent w ↦ search (rules, not-true, not-false, transparent_apart)
      | else-not-d-via-else-not-d w ↦ search (rules, not-true, not-false, transparent_calls)
    ]
