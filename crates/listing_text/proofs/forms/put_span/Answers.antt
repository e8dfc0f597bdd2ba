-- `listing_text::forms::put_span` meets its contract. Assumes nothing.
use mathlib.Core.Path.{sym, ap, ◌∙◌}
use Rattle.laws.proofs.Std.{and-std}
use Rattle.listing_text.specs.Forms.{span_of, span_text, marks_of}
use Rattle.listing_text.proofs.Pages.{puts_none, then_puts, puts_as}
use Rattle.listing_text.proofs.Spelling.{short}
use Rattle.listing_text.proofs.Telling.{same_span, other_span}
use Rattle.listing_text.proofs.forms.put_span.Goals as goal

pub returns-then-eq : goal.returns-then-eq
returns-then-eq c =
    puts_as (same_span c.args.own c.in-Some.span (sym (and-std _ _) ∙ sym c.eq.ensures ∙ c.if-eq.true)
    ∙ ap (λ m. span_text (span_of c.args.own) (marks_of m)) (sym c.in-Some.is)) puts_none

pub returns-else-eq : goal.returns-else-eq
returns-else-eq c =
    let text = then_puts (then_puts (then_puts (puts_as (short _) c.put_hex.ensures) c.put.ensures) (puts_as (short _) c.put_hex-in-Some.ensures)) c.put-in-Some.ensures in
    rw c.in-Some.is (puts_as (other_span c.args.own c.in-Some.span (sym (and-std _ _) ∙ sym c.eq.ensures ∙ c.if-eq.false)) text)

pub returns-in_default : goal.returns-in_default
unfolding span_text
returns-in_default c = rw c.in_default.is puts_none
