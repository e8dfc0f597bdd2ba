-- `flow::reaching::span_next` meets its contract. Assumes nothing.
use mathlib.Core.Path.{refl, ◌∙◌}
use mathlib.Core.Bool.{true}
use lib.ListN.{length, set}
use Rattle.lines.specs.Texts.{bare_listing}
use Rattle.cautions.specs.Forms.{reach}
use Rattle.flow.specs.Reaching.{after}
use Rattle.flow.proofs.Walking.{after_unknown, after_nowhere, after_one, after_two, after_three, reach_long}
use Rattle.flow.proofs.Spanning.{within_as, set_in, within_all}
use Rattle.flow.proofs.reaching.span_next.Goals as goal

pub returns-in-Unknown : goal.returns-in-Unknown
returns-in-Unknown c s n w = within_as c.args.span (after_unknown (bare_listing c.args.g.now.listing) c.args.k s (rw c.in-Unknown.is at c.next_of.ensures)) w

pub returns-in-Nowhere : goal.returns-in-Nowhere
returns-in-Nowhere c s n w = within_as c.args.span (after_nowhere (bare_listing c.args.g.now.listing) c.args.k s (rw c.in-Nowhere.is at c.next_of.ensures)) w

pub returns-in-One : goal.returns-in-One
returns-in-One c s n w =
    let a = c.in-One.a in
    within_as c.widened.result (after_one (bare_listing c.args.g.now.listing) c.args.k s (rw c.in-One.is at c.next_of.ensures) refl) (set_in c.args.span a s c.widened.ensures w)

pub returns-in-Two : goal.returns-in-Two
returns-in-Two c s n w =
    let a = c.in-Two.a in
    within_as c.widened-in-Two-2.result (after_two (bare_listing c.args.g.now.listing) c.args.k s (rw c.in-Two.is at c.next_of.ensures) refl refl)
    (set_in c.widened-in-Two.result c.in-Two.b (set s a true) c.widened-in-Two-2.ensures (set_in c.args.span a s c.widened-in-Two.ensures w))

pub returns-in-Three : goal.returns-in-Three
returns-in-Three c s n w =
    let a = c.in-Three.a in
    let b = c.in-Three.b in
    within_as c.widened-in-Three-3.result (after_three (bare_listing c.args.g.now.listing) c.args.k s (rw c.in-Three.is at c.next_of.ensures) refl refl refl)
    (set_in c.widened-in-Three-2.result c.in-Three.c (set (set s a true) b true) c.widened-in-Three-3.ensures
    (set_in c.widened-in-Three.result b (set s a true) c.widened-in-Three-2.ensures (set_in c.args.span a s c.widened-in-Three.ensures w)))

pub returns-in-Cases : goal.returns-in-Cases
returns-in-Cases c s n w =
    let g = c.args.g.now in
    let ks = after (bare_listing g.listing) c.args.k in
    within_all (length g.listing.lines.now) (reach ks s) (reach_long ks s ∙ n)
