-- `flow::reaching::step` meets its contract. Assumes nothing.
use borrow.Author.Rules.{rules}
use native.Mathlib.Omega.{arith}
use mathlib.Core.Path.{sym}
use Rattle.lines.specs.Texts.{bare_listing, fam_text}
use Rattle.reference.specs.Rules.{volatile}
use Rattle.ground.specs.Rules.{rules_of}
use Rattle.flow.proofs.Tables.{lines_long}
use Rattle.flow.proofs.Walking.{step_unseen, step_stopped, step_on}
use Rattle.flow.proofs.Spanning.{within_as}
use Rattle.flow.proofs.reaching.step.Goals as goal

pub returns-then-stops_at : goal.returns-then-stops_at
returns-then-stops_at c = let g = c.args.g.now in (
  step_stopped (bare_listing g.listing) c.args.i (fam_text g.listing.texts c.args.f) (volatile (rules_of c.args.rules)) c.args.k _ c.stops_at.ensures c.if-stops_at.true,
  c.requires.4,
)

pub returns-then-not-is_reached : goal.returns-then-not-is_reached
returns-then-not-is_reached c = let g = c.args.g.now in (
  step_unseen (bare_listing g.listing) c.args.i (fam_text g.listing.texts c.args.f) (volatile (rules_of c.args.rules)) c.args.k _ (search rules),
  c.requires.4,
)

pub returns : goal.returns
returns c =
    let a = c.args in
    let g = a.g.now in (
      step_on (bare_listing g.listing) a.i (fam_text g.listing.texts a.f) (volatile (rules_of a.rules)) a.k (omega (arith, lines_long g, c.requires.1)) a.seen.now
          c.if-not-is_reached.false c.stops_at.ensures c.if-stops_at.false c.mark_next.ensures,
      within_as _ (sym c.mark_next.ensures) (c.span_next.ensures a.seen.now c.requires.3 c.requires.4),
    )
