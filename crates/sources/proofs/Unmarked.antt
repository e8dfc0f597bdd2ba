-- M-105, "equality with the Rust leaves these marks out", of replies: of every call that is not refused, the output without its 03s is the tape of the
-- finished listing without marks (`output-unmarked`). Assumes nothing.
use Prim.Native.Nat.{ℕ, ◌^◌, ◌≤◌, ◌<◌}
use native.Mathlib.Omega.{arith}
use mathlib.Core.Path.{◌≡◌, ap, ◌∙◌}
use mathlib.Core.List.{List, [], ◌∷◌}
use mathlib.Core.Option.{none, some}
use lib.ListN.{length, take, drop}
use lib.Seq.{take-append_seam}
use Rattle.reference.specs.Listing.{Token, Listing}
use Rattle.reference.specs.Rules.{Rules}
use Rattle.reference.specs.Spans.{Marks}
use Rattle.reference.specs.Claim.{text_in, text}
use Rattle.reference.specs.Run.{finished}
use Rattle.reference.specs.Marks.{finished_marks}
use Rattle.reference.specs.Tape.{write, unmarked}
use Rattle.reference.specs.Questions.{Passed, read, marks_in}
use Rattle.reference.specs.Reply.{Cleaned, Reply, reply, output_after, report}
use Rattle.reference.proofs.LittleEndian.{Bytes}
use Rattle.reference.proofs.Commands.{AddressFits}
use Rattle.reference.proofs.Limits.{All, TokenFits, LineFits, MarksFit, TapeFits}
use Rattle.reference.proofs.Tapes.{read_fits, read-marks_fit}
use Rattle.reference.proofs.Marks.{finished-marks_fit}
use Rattle.reference.proofs.Unmarked.{Holdable, HoldableMarks, unmarked-write}
use Rattle.reference.proofs.Guarantee.{answered}
use Rattle.sources.proofs.Held.{Kind, Held, finished-held, finished_text}

-- ---- what bytes can hold

small-tokens : (ts : List Token) → All Kind ts → text_in ts ≤ 49152 → All (λ t. (t.kind < 8) × (length t.text < 2 ^ 16)) ts
small-tokens [] k h = tt
small-tokens (t ∷ ts) k h = ((k.0, omega arith), small-tokens ts k.1 (omega arith))

holdable : (lines : Listing) → All Held lines → text lines ≤ 49152 → All Holdable lines
holdable [] h t = tt
holdable (l ∷ ls) h t =
    (record { address = h.0.address; tokens = small-tokens l.tokens h.0.tokens (omega arith) }, holdable ls h.1 (omega arith))

pub holdable_marks : (marks : List Marks) → All MarksFit marks → All HoldableMarks marks
holdable_marks [] f = tt
holdable_marks (none ∷ ms) f = (tt, holdable_marks ms f.1)
holdable_marks (some s ∷ ms) f = (f.0.0, holdable_marks ms f.1)

kinds : (ts : List Token) → All TokenFits ts → All Kind ts
kinds [] h = tt
kinds (t ∷ ts) h = (h.0.kind, kinds ts h.1)

input-held : (lines : Listing) → All LineFits lines → All (λ l. AddressFits l.address) lines → All Held lines
input-held [] f a = tt
input-held (l ∷ ls) f a = (record { address = a.0; tokens = kinds l.tokens f.0.tokens }, input-held ls f.1 a.1)

module _ (tape : List ℕ) (input : Listing) (bytes : Bytes tape) (reads : read tape ≡ Passed input) where
  fits : TapeFits input
  fits = read_fits tape input bytes reads

  inputs : All Held input
  inputs = input-held input fits.limits.each fits.addresses

  -- of an accepted tape's listing
  pub holdable_read : All Holdable input
  holdable_read = holdable input inputs (omega (arith, fits.limits.short_text))

  -- of the finished listing, and of its marks
  pub holdable_cleaned : (rules : Rules) → All Holdable (finished rules input)
  holdable_cleaned rules = holdable (finished rules input) (finished-held rules input inputs) (finished_text rules tape input reads)

  pub holdable_cleaned_marks : (rules : Rules) → All HoldableMarks (finished_marks rules input (marks_in tape))
  holdable_cleaned_marks rules =
      holdable_marks (finished_marks rules input (marks_in tape))
      (finished-marks_fit rules input (marks_in tape) fits.addresses (read-marks_fit tape input bytes reads).0)

  cleaned-unmarked : (rules : Rules) → unmarked (write (finished rules input) (finished_marks rules input (marks_in tape))) ≡ write (finished rules input) []
  cleaned-unmarked rules = unmarked-write (finished rules input) _ (holdable_cleaned rules) (holdable_cleaned_marks rules)

-- ---- a call

output-front : (r : Reply) (output : List ℕ) (c : Cleaned) → r ≡ Passed c → take (report r).length (output_after r output) ≡ c.tape
unfolding output_after report
output-front r output c e =
    ap (λ (r : Reply). take (report r).length (output_after r output)) e ∙ take-append_seam c.tape (drop (length c.tape) output)

-- OF EVERY CALL THAT IS NOT REFUSED: the output up to its length, its 03s left out, is the finished listing's tape without marks
pub output-unmarked : (rules : Rules) (tape : List ℕ) (work_a work_b : ℕ) (output : List ℕ) → Bytes tape
    → let r = reply rules tape work_a work_b (length output) in
    (c : Cleaned) → r ≡ Passed c
    → (input : Listing) × (read tape ≡ Passed input) × (unmarked (take (report r).length (output_after r output)) ≡ write (finished rules input) [])
output-unmarked rules tape work_a work_b output bytes c e =
    let a = answered rules tape work_a work_b (length output) c e in (
      a.input,
      a.reads,
      ap unmarked (output-front _ output c e)
          ∙ ap (λ (x : Cleaned). unmarked x.tape) a.cleaned
          ∙ cleaned-unmarked tape a.input bytes a.reads rules,
    )
