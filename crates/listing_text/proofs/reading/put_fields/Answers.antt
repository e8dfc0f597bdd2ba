-- `listing_text::reading::put_fields` meets its contract. Assumes nothing.
use native.Mathlib.Omega.{arith}
use mathlib.Core.Path.{◌≡◌, refl, sym, ap, ◌∙◌}
use mathlib.Core.List.{List, [], ◌∷◌}
use Rattle.reference.specs.Text.{Text}
use Rattle.listing_text.specs.Room.{page}
use Rattle.listing_text.specs.Exact.{apart, fields_read, line_read}
use Rattle.listing_text.specs.Parsed.{onto_page}
use Rattle.listing_text.proofs.Fielding.{lies_wrong, no_fields, head_wrong, head_right, field-wrong, field-right, fields_done}
use Rattle.listing_text.proofs.Parts.{parts_of, first_part, two_parts}
use Rattle.listing_text.proofs.reading.put_fields.Goals as goal

pub returns-in_err-ok_or : goal.returns-in_err-ok_or
returns-in_err-ok_or c =
    let s = c.split_once in
    let g = page c.args.out.now in
    let one : apart 9 c.args.line.now ≡ s.result.0.now ∷ []
    = first_part 9 c.args.line.now s.result.0.now s.result.1 s.ensures.without s.ensures.whole ∙ ap (λ o. s.result.0.now ∷ parts_of 9 o) c.in_err-ok_or.ensures.ok_part in
    record {
      lays = record {
        same = lies_wrong c.args.out.now c.from_residual.result c.from_residual.ensures.0
            ∙ no_fields g (s.result.0.now ∷ []) (omega arith) ∙ ap (λ (fs : List Text). onto_page g (line_read fs)) (sym one);
      };
      lent = refl;
    }

pub returns-in_err-put_head : goal.returns-in_err-put_head
returns-in_err-put_head c =
    let s = c.split_once in
    let t = c.split_once-2 in
    let g = page c.args.out.now in
    let two = two_parts 9 c.args.line.now s.result.0.now s.result.1 _ t.result.0.now t.result.1 s.ensures.without s.ensures.whole c.in_ok-ok_or.ensures.ok_part t.ensures.without t.ensures.whole in
    record {
      lays = record {
        same = lies_wrong c.put_head.new.out c.from_residual-in_err-put_head.result c.from_residual-in_err-put_head.ensures.0
            ∙ head_wrong g s.result.0.now t.result.0.now c.in_err-put_head.ensures.lays (parts_of 9 t.result.1) refl
            ∙ ap (λ (fs : List Text). onto_page g (line_read fs)) (sym two);
      };
      lent = c.in_err-put_head.ensures.lent;
    }

pub loop-left-init : goal.loop-left-init
loop-left-init c =
    let s = c.split_once in
    let t = c.split_once-2 in
    let g = page c.args.out.now in
    let two = two_parts 9 c.args.line.now s.result.0.now s.result.1 _ t.result.0.now t.result.1 s.ensures.without s.ensures.whole c.in_ok-ok_or.ensures.ok_part t.ensures.without t.ensures.whole in
    record {
      told = head_right g s.result.0.now t.result.0.now c.in_ok-put_head.ensures.lays (parts_of 9 t.result.1) refl ∙ ap (λ (fs : List Text). onto_page g (line_read fs)) (sym two);
      lent = c.in_ok-put_head.ensures.lent;
    }

pub returns-in_err-put_field : goal.returns-in_err-put_field
returns-in_err-put_field c =
    let s = c.split_once-in-Some in
    let g = page c.loop-left.out in
    let parts : parts_of 9 c.loop-left.left ≡ s.result.0.now ∷ parts_of 9 s.result.1
    = ap (parts_of 9) c.in-Some.is ∙ first_part 9 c.in-Some.fields.now s.result.0.now s.result.1 s.ensures.without s.ensures.whole in
    record {
      lays = record {
        same = lies_wrong c.put_field.new.out c.from_residual-in_err-put_field.result c.from_residual-in_err-put_field.ensures.0
            ∙ field-wrong g s.result.0.now c.in_err-put_field.ensures.lays (parts_of 9 s.result.1) refl
            ∙ ap (λ (fs : List Text). onto_page g (fields_read fs)) (sym parts) ∙ c.loop-left.invariant.told;
      };
      lent = c.in_err-put_field.ensures.lent ∙ c.loop-left.invariant.lent;
    }

pub loop-left-preserved : goal.loop-left-preserved
loop-left-preserved c =
    let s = c.split_once-in-Some in
    let g = page c.loop-left.out in
    let parts : parts_of 9 c.loop-left.left ≡ s.result.0.now ∷ parts_of 9 s.result.1
    = ap (parts_of 9) c.in-Some.is ∙ first_part 9 c.in-Some.fields.now s.result.0.now s.result.1 s.ensures.without s.ensures.whole in
    record {
      told = field-right g s.result.0.now c.in_ok-put_field.ensures.lays (parts_of 9 s.result.1) refl ∙ ap (λ (fs : List Text). onto_page g (fields_read fs)) (sym parts)
          ∙ c.loop-left.invariant.told;
      lent = c.in_ok-put_field.ensures.lent ∙ c.loop-left.invariant.lent;
    }

pub returns : goal.returns
returns c =
    let g = page c.loop-left.out in
    record {
      lays = record { same = fields_done g ∙ ap (λ o. onto_page g (fields_read (parts_of 9 o))) (sym c.in_default.is) ∙ c.loop-left.invariant.told };
      lent = c.loop-left.invariant.lent;
    }
