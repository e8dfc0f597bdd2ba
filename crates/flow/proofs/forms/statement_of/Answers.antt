-- `flow::forms::statement_of` meets its contract. Assumes nothing.
use mathlib.Core.Path.{◌∙◌}
use mathlib.Core.List.{append-nil}
use Rattle.cautions.specs.Forms.{signs_in}
use Rattle.lines.specs.Texts.{tokens_of}
use Rattle.flow.specs.Forms.{SIGNS}
use Rattle.flow.proofs.Spelled.{spells, none_spelled, none_short}
use Rattle.flow.proofs.forms.statement_of.Goals as goal

pub returns-clause-is : goal.returns-clause-is
returns-clause-is c =
    let a = c.args in
    let w = c.with_words.ensures in
    let g = c.with_signs.ensures in
    let b = g.few _ (w.few 0 none_short) in
    spells _ _ b.room (g.is _ ∙ rw (append-nil (signs_in SIGNS (tokens_of a.texts.now a.line.now))) (w.is (signs_in SIGNS (tokens_of a.texts.now a.line.now)) ∙ none_spelled _))
