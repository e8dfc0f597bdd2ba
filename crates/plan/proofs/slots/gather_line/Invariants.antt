-- What the loop of `plan::slots::gather_line` keeps true.
use Rattle.plan.specs.Slots.{SameSlots}
use Rattle.plan.proofs.Noting.{Pairs}
use Rattle.plan.proofs.slots.gather_line.Given as goal

abbrev pub invariant-loop-pair : goal.invariant-loop-pair
invariant-loop-pair l =
    Pairs l.texts.tape.now l.texts.area.now l.line l.initial.names l.names l.pair-iterator × SameSlots l.initial.names l.names
