-- `clean::cleaning::finish` meets its contract. Assumes nothing.
use mathlib.Core.Path.{refl, sym}
use Rattle.clean.proofs.Running.{front_long, wiped}
use Rattle.clean.proofs.cleaning.finish.Goals as goal

pub slice_bounds-fill-end-2 : goal.slice_bounds-fill-end-2
slice_bounds-fill-end-2 c = sym (front_long c.args.work_a.now c.requires.room_a refl c.written-r.new.area c.written-r.auto.area)

pub slice_bounds-fill-end-4 : goal.slice_bounds-fill-end-4
slice_bounds-fill-end-4 c = sym (front_long c.args.work_b.now c.requires.room_b refl c.written-r.new.area2 c.written-r.auto.area2)

pub returns : goal.returns
returns c input e =
    let w = c.written-r in
    record {
      summary_is = (w.ensures input e).summary_is;
      output_is = (w.ensures input e).output_is;
      work_a_is = wiped c.args.work_a.now c.requires.room_a refl w.new.area w.auto.area _ (c.fill.ensures.after (λ y same. same));
      work_b_is = wiped c.args.work_b.now c.requires.room_b refl w.new.area2 w.auto.area2 _ (c.fill-2.ensures.after (λ y same. same));
    }
