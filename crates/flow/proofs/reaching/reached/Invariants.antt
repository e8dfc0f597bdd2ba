-- What the loop of `flow::reaching::reached` keeps true: the sweeps that are to come make the table, and what is set is in the span. Assumes nothing.
use Rattle.std.proofs.Common.{◌≡◌, ◌-◌, suc, length}
use Rattle.cautions.specs.Forms.{sweeps}
use Rattle.lines.specs.Texts.{bare_listing, fam_text}
use Rattle.reference.specs.Rules.{volatile}
use Rattle.ground.specs.Rules.{rules_of}
use Rattle.reference.specs.Lists.{count}
use Rattle.flow.specs.Reaching.{is_one, onward_of, reached_table}
use Rattle.flow.specs.Spans.{Within}
use Rattle.flow.proofs.reaching.reached.Given as goal

abbrev pub invariant-loop-turn : goal.invariant-loop-turn
invariant-loop-turn l =
    let lines = bare_listing l.g.listing in
    let fam = fam_text l.g.listing.texts l.f in
    let vs = volatile (rules_of l.rules) in
    (sweeps (length l.g.listing.lines.now - l.turn) (onward_of lines l.i fam vs) l.seen ≡ reached_table lines l.i fam vs)
    × (length l.seen ≡ suc (length l.g.listing.lines.now))
    × (l.before ≡ count is_one l.seen)
    × Within l.span l.seen
