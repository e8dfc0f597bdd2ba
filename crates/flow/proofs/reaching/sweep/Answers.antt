-- `flow::reaching::sweep` meets its contract. Assumes nothing.
use mathlib.Core.Path.{refl, ap, ◌∙◌}
use native.Mathlib.Omega.{arith}
use lib.ListN.{length}
use mathlib.Core.List.{List}
use mathlib.Core.Bool.{Bool}
use Rattle.lines.specs.Texts.{bare_listing, fam_text}
use Rattle.reference.specs.Rules.{volatile}
use Rattle.ground.specs.Rules.{rules_of}
use Rattle.flow.proofs.Tables.{lines_long}
use Rattle.flow.proofs.Walking.{sweep_more, sweep_end, step_long}
use Rattle.flow.proofs.Spanning.{sweep_front, sweep_back}
use Rattle.flow.specs.Reaching.{onward_of}
use Rattle.flow.proofs.reaching.sweep.Goals as goal

pub loop-k-init : goal.loop-k-init
loop-k-init c = let g = c.args.g.now in (
  sweep_front c.args.span (onward_of (bare_listing g.listing) c.args.i (fam_text g.listing.texts c.args.f) (volatile (rules_of c.args.rules))) c.args.seen.now c.requires.3,
  refl,
  c.requires.3,
)

pub loop-k-preserved : goal.loop-k-preserved
loop-k-preserved c =
    let g = c.args.g.now in
    let ls = bare_listing g.listing in
    let fam = fam_text g.listing.texts c.args.f in
    let vs = volatile (rules_of c.args.rules) in
    let l = c.loop-k in (
      sweep_more ls c.args.i fam vs l.k (omega (arith, lines_long g, c.loop-k-test.true)) l.seen c.step-reached.ensures.0 l.invariant.0,
      ap (λ (x : List Bool). length x) c.step-reached.ensures.0 ∙ step_long ls c.args.i fam vs l.k l.seen ∙ l.invariant.1,
      c.step-reached.ensures.1,
    )

pub returns-then-reached-k : goal.returns-then-reached-k
returns-then-reached-k c = let g = c.args.g.now in
    let l = c.loop-k in (
      sweep_back l.reached l.k (onward_of (bare_listing g.listing) c.args.i (fam_text g.listing.texts c.args.f) (volatile (rules_of c.args.rules))) l.seen
          l.invariant.2 c.if-reached-k.true l.invariant.0,
      l.invariant.2,
    )

pub returns : goal.returns
returns c = let g = c.args.g.now in
    let l = c.loop-k in (
      sweep_end (bare_listing g.listing) c.args.i (fam_text g.listing.texts c.args.f) (volatile (rules_of c.args.rules)) l.k (omega (arith, lines_long g, c.loop-k-test.false)) l.seen l.invariant.0,
      l.invariant.2,
    )
