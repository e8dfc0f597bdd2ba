-- What the loop of `plan::slots::gather_slots` keeps true.
use Rattle.lines.specs.Texts.{bare_listing}
use Rattle.plan.specs.Slots.{SameSlots}
use Rattle.plan.proofs.Noting.{LinesNoting}
use Rattle.plan.proofs.slots.gather_slots.Given as goal

abbrev pub invariant-loop-l : goal.invariant-loop-l
invariant-loop-l l = LinesNoting (bare_listing l.listing) l.names l.l-index × SameSlots l.initial.names l.names
