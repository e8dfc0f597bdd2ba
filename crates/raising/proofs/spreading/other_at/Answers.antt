-- `raising::spreading::other_at` meets its contract. Assumes nothing.
use Prim.Native.Nat.{◌<◌}
use native.Mathlib.Omega.{arith}
use mathlib.Core.Path.{sym, ap, ◌∙◌}
use lib.ListN.{length}
use Rattle.cautions.specs.Forms.{reads}
use Rattle.lines.specs.Texts.{bare_listing, fam_text, tokens_of}
use Rattle.flow.proofs.Tables.{lines_long, table_tokens}
use Rattle.raising.proofs.Putting.{no_dark, no_stale, dark_here, dark_not_stale, stale_here}
use Rattle.raising.proofs.spreading.other_at.Goals as goal

pub returns-then-not-is_other-clause-dark : goal.returns-then-not-is_other-clause-dark
returns-then-not-is_other-clause-dark c =
    let g = c.args.g.now in
    let h : c.args.k < length (bare_listing g.listing) = omega (arith, lines_long g, c.requires.2) in
    no_dark (bare_listing g.listing) c.args.i c.args.parts.now c.args.seen.now c.args.k h c.is_other.ensures c.if-not-is_other.true

pub returns-then-not-is_other-clause-stale : goal.returns-then-not-is_other-clause-stale
returns-then-not-is_other-clause-stale c =
    let g = c.args.g.now in
    let h : c.args.k < length (bare_listing g.listing) = omega (arith, lines_long g, c.requires.2) in
    no_stale (bare_listing g.listing) c.args.i c.args.parts.now c.args.seen.now c.args.k h c.is_other.ensures c.if-not-is_other.true (fam_text g.listing.texts c.args.f)

pub returns-then-is_dark-clause-dark : goal.returns-then-is_dark-clause-dark
returns-then-is_dark-clause-dark c =
    let g = c.args.g.now in
    let h : c.args.k < length (bare_listing g.listing) = omega (arith, lines_long g, c.requires.2) in
    sym c.if-is_dark.true ∙ dark_here (bare_listing g.listing) c.args.i c.args.parts.now c.args.seen.now c.args.k h c.is_other.ensures c.if-not-is_other.false c.is_dark.ensures

pub returns-then-is_dark-clause-stale : goal.returns-then-is_dark-clause-stale
returns-then-is_dark-clause-stale c =
    let g = c.args.g.now in
    let h : c.args.k < length (bare_listing g.listing) = omega (arith, lines_long g, c.requires.2) in
    dark_not_stale (bare_listing g.listing) c.args.i c.args.parts.now c.args.seen.now c.args.k h c.is_other.ensures c.if-not-is_other.false
    c.is_dark.ensures c.if-is_dark.true (fam_text g.listing.texts c.args.f)

pub returns-clause-dark : goal.returns-clause-dark
returns-clause-dark c =
    let g = c.args.g.now in
    let h : c.args.k < length (bare_listing g.listing) = omega (arith, lines_long g, c.requires.2) in
    sym c.if-is_dark.false ∙ dark_here (bare_listing g.listing) c.args.i c.args.parts.now c.args.seen.now c.args.k h c.is_other.ensures c.if-not-is_other.false c.is_dark.ensures

pub returns-clause-stale : goal.returns-clause-stale
returns-clause-stale c =
    let g = c.args.g.now in
    let h : c.args.k < length (bare_listing g.listing) = omega (arith, lines_long g, c.requires.2) in
    stale_here (bare_listing g.listing) c.args.i c.args.parts.now c.args.seen.now c.args.k h c.is_other.ensures c.if-not-is_other.false
    c.is_dark.ensures c.if-is_dark.false (fam_text g.listing.texts c.args.f)
    (c.reads.ensures ∙ ap (reads (fam_text g.listing.texts c.args.f)) (ap (tokens_of g.listing.texts) c.line_of-line.ensures ∙ table_tokens g c.args.k c.requires.2))
