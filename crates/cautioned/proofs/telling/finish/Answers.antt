-- `cautioned::telling::finish` meets its contract. Assumes nothing.
use mathlib.Core.Path.{refl, sym}
use Rattle.ground.specs.Rules.{rules_of}
use Rattle.clean.proofs.Running.{front_long, wiped}
use Rattle.cautioned.proofs.Running.{any_reply, finishes}
use Rattle.cautioned.proofs.telling.finish.Goals as goal

pub slice_bounds-fill-end-2 : goal.slice_bounds-fill-end-2
slice_bounds-fill-end-2 c = sym (front_long c.args.work_a.now c.requires.room_a refl c.tell-n.new.area c.tell-n.auto.area)

pub slice_bounds-fill-end-4 : goal.slice_bounds-fill-end-4
slice_bounds-fill-end-4 c = sym (front_long c.args.work_b.now c.requires.room_b refl c.tell-n.new.area2 c.tell-n.auto.area2)

pub returns : goal.returns
returns c input e =
    let w = c.tell-n in
    let some = any_reply (rules_of c.args.rules) input in
    finishes (rules_of c.args.rules) input (w.ensures input e)
    (wiped c.args.work_a.now c.requires.room_a refl w.new.area w.auto.area some (c.fill.ensures.after (λ y same. same)))
    (wiped c.args.work_b.now c.requires.room_b refl w.new.area2 w.auto.area2 some (c.fill-2.ensures.after (λ y same. same)))
