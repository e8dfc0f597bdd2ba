-- `flow::reaching::stops_at` meets its contract. Assumes nothing.
use mathlib.Core.Path.{ap, ◌∙◌}
use Rattle.lines.specs.Texts.{bare_listing, fam_text, tokens_of}
use Rattle.cautions.specs.Forms.{ends}
use Rattle.flow.proofs.Tables.{table_tokens}
use Rattle.reference.specs.Rules.{volatile}
use Rattle.ground.specs.Rules.{rules_of}
use Rattle.flow.proofs.Walking.{stops_here, stops_dark, stops_ended}
use Rattle.flow.proofs.reaching.stops_at.Goals as goal

pub returns-then-k-i : goal.returns-then-k-i
returns-then-k-i c = let g = c.args.g.now in
    stops_here (bare_listing g.listing) c.args.i (fam_text g.listing.texts c.args.f) (volatile (rules_of c.args.rules)) c.args.k c.if-k-i.true

pub returns-then-is_dark : goal.returns-then-is_dark
returns-then-is_dark c = let g = c.args.g.now in
    stops_dark (bare_listing g.listing) c.args.i (fam_text g.listing.texts c.args.f) (volatile (rules_of c.args.rules)) c.args.k c.if-k-i.false c.is_dark.ensures c.if-is_dark.true

pub returns : goal.returns
returns c = let g = c.args.g.now in
    stops_ended (bare_listing g.listing) c.args.i (fam_text g.listing.texts c.args.f) (volatile (rules_of c.args.rules)) c.args.k c.if-k-i.false c.is_dark.ensures c.if-is_dark.false
    (c.ends.ensures ∙ ap (ends (fam_text g.listing.texts c.args.f) (volatile (rules_of c.args.rules))) (ap (tokens_of g.listing.texts) c.line_of-line.ensures ∙ table_tokens g c.args.k c.requires.1))
