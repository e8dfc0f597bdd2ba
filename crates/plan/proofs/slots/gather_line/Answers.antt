-- `plan::slots::gather_line` meets its contract. Assumes nothing.
use Rattle.plan.proofs.Noting.{pair_first, pair_second, pair_room, pairs_next, pairs_end, slots_then}
use Rattle.plan.proofs.slots.gather_line.Goals as goal

pub gather_slot-requires : goal.gather_slot-requires
gather_slot-requires c =
    let l = c.loop-pair in
    let s = l.invariant.0 in
    let p = c.requires in (
      pair_first s _ _ c.in-Some.pair c.in-Some.is c.next.ensures.steps p.0,
      pair_second s _ _ c.in-Some.pair c.in-Some.is c.next.ensures.steps p.0,
      s.noting.slotting,
      pair_room s _ _ c.in-Some.pair c.in-Some.is c.next.ensures.steps p.0 p.2 l.invariant.1,
    )

pub loop-pair-preserved : goal.loop-pair-preserved
loop-pair-preserved c =
    let i = c.loop-pair.invariant in
    let t = c.gather_slot.ensures in
    (pairs_next i.0 _ _ c.in-Some.pair c.in-Some.is c.next.ensures.steps c.requires.0 t.noted, slots_then i.1 t.lent)

pub returns : goal.returns
returns c =
    let i = c.loop-pair.invariant in
    record { noted = pairs_end i.0 _ _ c.in-None.is c.next.ensures.steps; lent = i.1 }
