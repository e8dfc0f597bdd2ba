-- `listing_text::fields::field_of` meets its contract. Assumes nothing.
use mathlib.Core.Path.{ap, ◌∙◌}
use Rattle.listing_text.proofs.fields.field_of.Goals.{then-field-lt2-via-then-field-lt2, then-field-lt2-via-else-field-lt2+then-field-ne58}
use lib.ListN.{get_or}
use Rattle.reference.specs.Text.{Text}
use Rattle.laws.proofs.Parts.{to_end}
use Rattle.listing_text.specs.Exact.{span_command, token_command}
use Rattle.listing_text.specs.Parsed.{read_of}
use Rattle.listing_text.proofs.Fielding.{field-short, field_no_colon, field-marks, field-token}
use Rattle.listing_text.proofs.fields.field_of.Goals as goal

pub returns-then-field-lt2 : goal.returns-then-field-lt2
returns-then-field-lt2 c = elim c.then-field-lt2.branch [
  | then-field-lt2-via-then-field-lt2 w ↦ field-short c.args.field.now w.if-field-lt2.true
  | then-field-lt2-via-else-field-lt2+then-field-ne58 w ↦ field_no_colon c.args.field.now w.if-field-lt2.false w.if-field-ne58.true
]

pub returns-then-field-eq109 : goal.returns-then-field-eq109
returns-then-field-eq109 c = let f = c.args.field.now in
    c.span_of.ensures ∙ ap (λ (t : Text). read_of (span_command t)) (to_end 2 f)
    ∙ ap read_of (field-marks f c.if-field-lt2.false c.if-field-ne58.false c.if-field-eq109.true)

pub returns : goal.returns
returns c = let f = c.args.field.now in
    c.token_of.ensures ∙ ap (λ (t : Text). read_of (token_command (get_or f 0 0) t)) (to_end 2 f)
    ∙ ap read_of (field-token f c.if-field-lt2.false c.if-field-ne58.false c.if-field-eq109.false)
