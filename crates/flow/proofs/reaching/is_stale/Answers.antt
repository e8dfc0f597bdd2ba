-- `flow::reaching::is_stale` meets its contract. Assumes nothing.
use mathlib.Core.Path.{ap, ◌∙◌}
use Rattle.laws.proofs.Scans.{and_not_second}
use Rattle.lines.specs.Texts.{fam_text, tokens_of}
use Rattle.cautions.specs.Forms.{reads}
use Rattle.flow.specs.Reaching.{is_stale}
use Rattle.flow.proofs.Tables.{table_tokens}
use Rattle.flow.proofs.reaching.is_stale.Goals as goal

pub returns : goal.returns
unfolding is_stale
returns c =
    let g = c.args.g.now in
    let tokens = ap (tokens_of g.listing.texts) c.line_of-line.ensures ∙ table_tokens g c.args.k c.requires.1 in
    and_not_second c.is_dark.ensures c.if-is_dark.false (c.reads.ensures ∙ ap (reads (fam_text g.listing.texts c.args.f)) tokens)
