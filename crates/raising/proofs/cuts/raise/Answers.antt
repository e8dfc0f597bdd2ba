-- `raising::cuts::raise` meets its contract. Assumes nothing.
use mathlib.Core.List.{[]}
use Rattle.reference.specs.Control.{when◌then◌else◌}
use Rattle.lines.specs.Fams as Fams
use Rattle.ground.specs.Rules.{rules_of}
use Rattle.lines.specs.Texts.{bare_listing}
use Rattle.flow.proofs.Tables.{lines_long}
use Rattle.raising.proofs.Cutting.{cut_raised, none_noted}
use Rattle.raising.proofs.cuts.raise.Goals as goal

pub returns-clause-sets : goal.returns-clause-sets
unfolding Fams.fam_text when◌then◌else◌
returns-clause-sets c =
    let a = c.args in
    let g = a.g.now in
    let ls = bare_listing g.listing in
    cut_raised (rules_of a.rules) ls a.i a.sets.now c.spread-own.new.sets _ (lines_long g) c.requires.1 c.requires.3 c.spread-own.ensures.long
    _ c.reached.ensures c.reads_again-again.ensures (c.spread-own.ensures.marked [] (none_noted ls)) (c.spread-own.ensures.kinds [] (none_noted ls))
