-- `build::builder::Builder::rewrite_line` meets its contract. Assumes nothing.
use Rattle.lines.specs.Fams.{fam_text}
use Rattle.lines.specs.Lines.{part_of}
use Rattle.build.specs.Substitution.{right_of}
use Rattle.build.specs.Added.{unmerged}
use Rattle.build.proofs.LineAdding.{room-merge, room-fold, line_added_folded}
use Rattle.build.proofs.Adding.{added_rewritten}
use Rattle.build.proofs.builder.Builder.rewrite_line.Goals as goal

pub merge-requires : goal.merge-requires
merge-requires c =
    let a = c.args in
    let p = c.requires in
    rw (c.line_of.ensures, c.line_of-2.ensures)
    (p.substitutes, p.lined.holds, room-merge (unmerged _ _ a.old_tokens.now a.source a.s a.l) p.numbers_short p.has_room)

pub fold_last-requires : goal.fold_last-requires
fold_last-requires c =
    let a = c.args in
    let e = c.merge.ensures in
    let l = rw (c.line_of.ensures, c.line_of-2.ensures) at e.added in
    (l.built, room-fold (unmerged _ _ a.old_tokens.now a.source a.s a.l) c.requires.numbers_short c.requires.has_room l e.lent.area_length e.lent.tokens_length)

pub returns-clause-rewritten : goal.returns-clause-rewritten
returns-clause-rewritten c =
    let a = c.args in
    let p = c.requires in
    let l = rw (c.line_of.ensures, c.line_of-2.ensures) at c.merge.ensures.added in
    let ts = unmerged _ _ a.old_tokens.now a.source a.s a.l in
    added_rewritten p.lined p.first_fits c.with_tokens.ensures a.edition (fam_text _ _ a.s.family) (right_of _ _ (part_of a.old_tokens.now a.source) a.s) p.few
    (line_added_folded ts p.numbers_short p.has_room l c.fold_last.ensures.folded)
