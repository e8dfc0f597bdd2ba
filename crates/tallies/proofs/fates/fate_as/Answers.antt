-- `tallies::fates::fate_as` meets its contract. Assumes nothing.
use mathlib.Core.Path.{sym, ◌∙◌}
use Rattle.laws.proofs.Scans.{if-true}
use Rattle.tallies.specs.Fates.{fate_as}
use Rattle.tallies.specs.Lines.{line_shown}
use Rattle.tallies.proofs.Fating.{fate_cut, fate_still, fate_other}
use Rattle.tallies.proofs.fates.fate_as.Goals as goal
use Rattle.tallies.proofs.fates.fate_as.Goals.{else-begins_result-via-then-begins_result+else-not-begins_result, else-begins_result-via-else-begins_result}

pub returns-then-same_line : goal.returns-then-same_line
unfolding fate_as
returns-then-same_line c = sym (if-true _ _ (sym c.same_line.ensures ∙ c.if-same_line.true))

pub returns-then-not-begins_result : goal.returns-then-not-begins_result
returns-then-not-begins_result c =
    fate_cut (line_shown c.args.raw) (line_shown c.args.finished) (sym c.same_line.ensures ∙ c.if-same_line.false) (sym c.begins_result.ensures ∙ c.if-begins_result.true)
    (sym c.begins_result-then-begins_result.ensures ∙ c.if-not-begins_result.true)

pub returns-else-begins_result : goal.returns-else-begins_result
returns-else-begins_result c =
    let e = sym c.same_line.ensures ∙ c.if-same_line.false in
    let l = line_shown c.args.raw in
    let m = line_shown c.args.finished in
    elim c.else-begins_result.branch [
      | else-begins_result-via-then-begins_result+else-not-begins_result w ↦
          fate_still l m e (sym c.begins_result.ensures ∙ w.if-begins_result.true) (sym w.begins_result-then-begins_result.ensures ∙ w.if-not-begins_result.false)
      | else-begins_result-via-else-begins_result w ↦ fate_other l m e (sym c.begins_result.ensures ∙ w.if-begins_result.false)
    ]
