-- What the loop of `flow::reaching::sweep` keeps true: the sweep from line k on is to come, and what is set is in the span. Assumes nothing.
use Rattle.std.proofs.Common.{◌≡◌, drop, length}
use Rattle.cautions.specs.Forms.{sweep}
use Rattle.lines.specs.Texts.{bare_listing, fam_text}
use Rattle.reference.specs.Rules.{volatile}
use Rattle.ground.specs.Rules.{rules_of}
use Rattle.flow.specs.Reaching.{onward_of}
use Rattle.flow.specs.Spans.{Within}
use Rattle.flow.proofs.reaching.sweep.Given as goal

abbrev pub invariant-loop-k : goal.invariant-loop-k
invariant-loop-k l =
    let on = onward_of (bare_listing l.g.listing) l.i (fam_text l.g.listing.texts l.f) (volatile (rules_of l.rules)) in
    (sweep l.k (drop l.k on) l.seen ≡ sweep 0 on l.initial.seen) × (length l.seen ≡ length l.initial.seen) × Within l.reached l.seen
