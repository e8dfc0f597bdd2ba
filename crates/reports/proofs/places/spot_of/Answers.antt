-- `reports::places::spot_of` meets its contract. Assumes nothing.
use native.Mathlib.Omega.{arith}
use mathlib.Core.Path.{sym, ap, ◌∙◌}
use Rattle.std.proofs.Common.{◌≡◌}
use Rattle.reference.specs.Tape.{old}
use Rattle.tape.specs.Held.{places, unplaced}
use Rattle.tape.specs.Walk.{event_shown, left}
use Rattle.tape.proofs.walk.Spending.{bytes_of, few}
use Rattle.reports.specs.Places.{nowhere, spot_from, spot_of}
use Rattle.reports.proofs.Placing.{spot_end, spot_here, spot_on, few_next}
use Rattle.reports.proofs.places.spot_of.Goals as goal

pub loop-c-init : goal.loop-c-init
unfolding spot_of
loop-c-init c =
    let e : left old c.into_iter-c-iterator.result ≡ places c.args.tape.now = rw c.into_iter-c-iterator.ensures.into_iter_gives c.new-c-items.ensures in
    record {
      told = ap (spot_from nowhere c.args.place) e;
      lines = rw e (omega (arith, few c.args.tape.now));
      tokens = rw e (omega (arith, few c.args.tape.now));
    }

pub returns-then-place-c : goal.returns-then-place-c
returns-then-place-c c =
    let more = left old c.next.new.self in
    spot_here c.loop-c.spot c.args.place c.in-Some.c.at (event_shown c.in-Some.c.event) more c.if-place-c.true
    ∙ sym (ap (spot_from c.loop-c.spot c.args.place) c.in-Some.ensures.steps) ∙ c.loop-c.invariant.told

pub loop-c-preserved : goal.loop-c-preserved
loop-c-preserved c =
    let more = left old c.next.new.self in
    let e = event_shown c.in-Some.c.event in
    let f = few_next c.loop-c.spot e (unplaced more) in
    let k = ap (λ ps. bytes_of (unplaced ps)) c.in-Some.ensures.steps in
    record {
      told = ap (λ s. spot_from s c.args.place more) c.after-spot.ensures
          ∙ sym (spot_on c.loop-c.spot c.args.place c.in-Some.c.at e more c.if-place-c.false)
          ∙ sym (ap (spot_from c.loop-c.spot c.args.place) c.in-Some.ensures.steps) ∙ c.loop-c.invariant.told;
      lines = rw c.after-spot.ensures (omega (arith, f.0, k, c.loop-c.invariant.lines));
      tokens = rw c.after-spot.ensures (omega (arith, f.1, k, c.loop-c.invariant.tokens));
    }

pub returns : goal.returns
returns c =
    spot_end c.loop-c.spot c.args.place ∙ sym (ap (spot_from c.loop-c.spot c.args.place) c.in-None.ensures.steps.0) ∙ c.loop-c.invariant.told
