-- `raising::cuts::reads_again` meets its contract. Assumes nothing.
use mathlib.Core.Path.{ap, ◌∙◌}
use native.Mathlib.Omega.{arith}
use Rattle.lines.specs.Texts.{tokens_of}
use Rattle.lines.proofs.fams.Families.{row-known}
use Rattle.flow.proofs.Tables.{table_tokens}
use Rattle.raising.proofs.Putting.{other_unseen}
use Rattle.raising.proofs.Cutting.{again_short, again_read, holds_cut}
use Rattle.raising.proofs.cuts.reads_again.Goals as goal

pub returns-then-not-seen-i : goal.returns-then-not-seen-i
returns-then-not-seen-i c = other_unseen _ c.if-not-seen-i.true

pub returns-then-line-lt2 : goal.returns-then-line-lt2
returns-then-line-lt2 c =
    let g = c.args.g.now in
    again_short g.listing.texts c.line_of-line.result.now (ap (tokens_of g.listing.texts) c.line_of-line.ensures ∙ table_tokens g c.args.i c.requires.1)
    c.if-not-seen-i.false c.if-line-lt2.true

pub reads-requires : goal.reads-requires
reads-requires c =
    (holds_cut c.line_of-line.result.now (rw c.line_of-line.ensures ((c.requires.0.listed.at c.args.i c.requires.1).holds)), row-known _ _ {f = 0} (omega arith))

pub returns : goal.returns
returns c =
    let g = c.args.g.now in
    again_read g.listing.texts c.line_of-line.result.now (ap (tokens_of g.listing.texts) c.line_of-line.ensures ∙ table_tokens g c.args.i c.requires.1)
    c.if-not-seen-i.false c.reads.ensures
