-- `tallies::listing::Line::label` meets its contract. Assumes nothing.
use mathlib.Core.Path.{sym, ap, ◌∙◌}
use Rattle.reference.specs.Join.{text_or_empty}
use Rattle.reference.specs.Control.{let_some◌else◌then◌}
use Rattle.reference.specs.Lists.{get}
use Rattle.laws.proofs.Scans.{and_true, and_false}
use Rattle.tallies.specs.Lines.{token_shown, tokens_left}
use Rattle.tallies.proofs.Fating.{none_shown, label_of_none, label_of_one, label_of_two}
use Rattle.tallies.proofs.listing.Line.label.Goals as goal
use Rattle.tallies.proofs.listing.Line.label.Goals.{else-is_none-via-then-is_none+else-are_label, else-is_none-via-else-is_none}

pub returns-in_err-name : goal.returns-in_err-name
returns-in_err-name c = rw c.from_residual.ensures (label_of_none (sym c.tokens-tokens.ensures ∙ c.in_err-name.ensures.steps.0))

pub returns-in_err-colon : goal.returns-in_err-colon
returns-in_err-colon c =
    rw c.from_residual-in_err-colon.ensures (label_of_one (sym c.tokens-tokens.ensures ∙ c.in_ok-name.ensures.steps) c.in_err-colon.ensures.steps.0)

pub returns-then-are_label : goal.returns-then-are_label
unfolding let_some◌else◌then◌
returns-then-are_label c =
    let first = sym c.tokens-tokens.ensures ∙ c.in_ok-name.ensures.steps in
    let none = none_shown token_shown (tokens_left c.next-2.new.self) (tokens_left c.next-3.new.self) c.next-3.result c.is_none.result c.next-3.ensures.steps c.is_none.ensures in (
      label_of_two (tokens_left c.next-2.new.self) first c.in_ok-colon.ensures.steps
          ∙ and_true _ (sym none ∙ c.if-is_none.true)
          ∙ sym c.are_label.ensures
          ∙ c.if-are_label.true,
      ap (λ ts. text_or_empty (get ts 0)) first,
    )

pub returns-else-is_none : goal.returns-else-is_none
returns-else-is_none c =
    let first = sym c.tokens-tokens.ensures ∙ c.in_ok-name.ensures.steps in
    let none = none_shown token_shown (tokens_left c.next-2.new.self) (tokens_left c.next-3.new.self) c.next-3.result c.is_none.result c.next-3.ensures.steps c.is_none.ensures in
    label_of_two (tokens_left c.next-2.new.self) first c.in_ok-colon.ensures.steps
    ∙ elim c.else-is_none.branch [
      | else-is_none-via-then-is_none+else-are_label w ↦ and_true _ (sym none ∙ w.if-is_none.true) ∙ sym w.are_label.ensures ∙ w.if-are_label.false
      | else-is_none-via-else-is_none w ↦ and_false _ (sym none ∙ w.if-is_none.false)
    ]
