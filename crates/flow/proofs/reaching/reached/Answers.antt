-- `flow::reaching::reached` meets its contract. Assumes nothing.
use mathlib.Core.Path.{sym, ap, ◌∙◌}
use lib.ListN.{length}
use mathlib.Core.List.{List}
use mathlib.Core.Bool.{Bool}
use Rattle.lines.specs.Texts.{bare_listing, fam_text}
use Rattle.reference.specs.Rules.{volatile}
use Rattle.ground.specs.Rules.{rules_of}
use Rattle.flow.specs.Reaching.{onward_of, after}
use Rattle.flow.proofs.Walking.{sweeps_done, sweeps_more, sweeps_end, sweep_long}
use Prim.Native.Nat.{ℕ, suc, ◌-◌}
use Rattle.cautions.specs.Forms.{reach}
use mathlib.Core.Bool.{false}
use mathlib.Core.Path.{◌≡◌}
use lib.ListN.{replicate}
use Rattle.flow.proofs.Tables.{lines_long}
use Rattle.flow.proofs.Walking.{reach_long, walk_begin}
use Rattle.flow.proofs.Spanning.{within_as, within_none}
use Rattle.flow.proofs.reaching.reached.Goals as goal

pub loop-turn-init : goal.loop-turn-init
loop-turn-init c = let g = c.args.g.now in
    let ls = bare_listing g.listing in
    let b = c.fill.ensures.after (λ y same. same) in
    let e : c.fill.new.self ≡ replicate (suc (length g.listing.lines.now)) false = b ∙ ap (λ (m : ℕ). replicate m false) c.requires.3 in (
      walk_begin ls (onward_of (bare_listing g.listing) c.args.i (fam_text g.listing.texts c.args.f) (volatile (rules_of c.args.rules))) c.args.i (length g.listing.lines.now) _ (lines_long g)
          (c.mark_next.ensures ∙ ap (reach (after ls c.args.i)) e),
      ap (λ (x : List Bool). length x) c.mark_next.ensures ∙ reach_long (after ls c.args.i) c.fill.new.self ∙ c.fill.ensures.len ∙ c.requires.3,
      c.count_set-before.ensures,
      within_as c.span_next-span.result (sym c.mark_next.ensures)
          (c.span_next-span.ensures c.fill.new.self (c.fill.ensures.len ∙ c.requires.3)
          (within_as _ (sym e) (within_none (length g.listing.lines.now) 0 (suc (length g.listing.lines.now))))),
    )

pub loop-turn-preserved : goal.loop-turn-preserved
loop-turn-preserved c = let g = c.args.g.now in
    let l = c.loop-turn in
    let on = onward_of (bare_listing g.listing) c.args.i (fam_text g.listing.texts c.args.f) (volatile (rules_of c.args.rules)) in (
      sweeps_more (length g.listing.lines.now) l.turn on l.seen c.loop-turn-test.true c.sweep-span.ensures.0 l.invariant.0,
      ap (λ (x : List Bool). length x) c.sweep-span.ensures.0 ∙ sweep_long 0 on l.seen ∙ l.invariant.1,
      c.count_set-now.ensures,
      c.sweep-span.ensures.1,
    )

pub returns : goal.returns
returns c =
    let g = c.args.g.now in
    let l = c.loop-turn in
    let on = onward_of (bare_listing g.listing) c.args.i (fam_text g.listing.texts c.args.f) (volatile (rules_of c.args.rules)) in
    sweeps_end (length g.listing.lines.now) l.turn on l.seen c.loop-turn-test.false l.invariant.0

pub returns-then-now-before : goal.returns-then-now-before
returns-then-now-before c =
    let g = c.args.g.now in
    let l = c.loop-turn in
    let on = onward_of (bare_listing g.listing) c.args.i (fam_text g.listing.texts c.args.f) (volatile (rules_of c.args.rules)) in
    sweeps_done (length g.listing.lines.now - l.turn) on l.seen c.sweep-span.ensures.0 l.invariant.2 c.count_set-now.ensures
    c.if-now-before.true l.invariant.0
