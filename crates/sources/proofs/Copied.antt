-- The copy's tape: it is accepted wherever the listing's was (`copy-reads`), no 03 is read there (`copy-marks`), and a buffer of 34,561 bytes holds it
-- (`copy-length`). Assumes nothing.
use Prim.Native.Nat.{ℕ, zero, suc, ◌≤◌}
use native.Mathlib.Omega.{arith}
use mathlib.Core.Path.{◌≡◌, refl, ap, ◌∙◌}
use mathlib.Core.Bool.{Bool}
use mathlib.Core.List.{List, [], ◌∷◌, map}
use mathlib.Core.Option.{none}
use lib.ListN.{length, length-map}
use Rattle.reference.specs.Listing.{Listing}
use Rattle.reference.specs.Rules.{Rules}
use Rattle.reference.specs.Spans.{Marks, span_of}
use Rattle.reference.specs.Claim.{token_count, text}
use Rattle.reference.specs.Run.{run, attempts_of, finished}
use Rattle.reference.specs.Marks.{comes_to, added, of_each, finished_marks}
use Rattle.reference.specs.Tape.{write_lines, write_lines_by, write, write_by}
use Rattle.reference.specs.Questions.{Passed, read, marks_in}
use Rattle.reference.proofs.Commands.{AddressFits}
use Rattle.reference.proofs.Limits.{All, MarksFit, LineFits, Limits, TapeFits}
use Rattle.reference.proofs.Writing.{write-length}
use Rattle.reference.proofs.Tapes.{read-limits}
use Rattle.reference.proofs.Written.{read-write}
use Rattle.joining.specs.Bare.{bare, bare_lines}
use Rattle.sources.specs.Only.{only, only_tape}

-- ---- no marks, and no marks for each line

abbrev pub nones : Listing → List Marks
nones lines = map (λ l. none) lines

pub lines_none : (lines : Listing) → write_lines lines (nones lines) ≡ write_lines lines []
unfolding write_lines_by
lines_none [] = refl
lines_none (l ∷ ls) = rw (lines_none ls)

write_none : (lines : Listing) → write lines (nones lines) ≡ write lines []
unfolding write_by
write_none lines = rw (lines_none lines)

added_none : (P : ℕ → Bool) (lines : Listing) → added P lines (nones lines) ≡ added P lines []
unfolding added
added_none P [] = refl
added_none P (l ∷ ls) = rw (added_none (λ p. P (suc p)) ls)

marks_none : (rules : Rules) (lines : Listing) → finished_marks rules lines (nones lines) ≡ finished_marks rules lines []
unfolding finished_marks
marks_none rules lines = λ t. of_each (λ q. span_of (added_none (λ p. comes_to (attempts_of (run rules lines)) p q) lines t)) (finished rules lines)

none_fit : (lines : Listing) → All MarksFit (nones lines)
none_fit [] = tt
none_fit (l ∷ ls) = (tt, none_fit ls)

-- ---- the copy is within the limits

bare-each : (lines : Listing) → All LineFits lines → All LineFits (bare_lines lines)
bare-each [] h = tt
bare-each (l ∷ ls) h = (record { indent = h.0.indent; tokens = h.0.tokens }, bare-each ls h.1)

bare-address : (lines : Listing) → All (λ l. AddressFits l.address) (bare_lines lines)
bare-address [] = tt
bare-address (l ∷ ls) = (tt, bare-address ls)

bare-tokens : (lines : Listing) → token_count (bare_lines lines) ≡ token_count lines
bare-tokens [] = refl
bare-tokens (l ∷ ls) = omega (arith, bare-tokens ls)

bare_text : (lines : Listing) → text (bare_lines lines) ≡ text lines
bare_text [] = refl
bare_text (l ∷ ls) = omega (arith, bare_text ls)

pub only-length : (k : ℕ) (lines : Listing) → length (only k lines) ≡ length lines
unfolding only
only-length k [] = refl
only-length zero (l ∷ ls) = ap suc (length-map ls bare)
only-length (suc k) (l ∷ ls) = ap suc (only-length k ls)

only-tokens : (k : ℕ) (lines : Listing) → token_count (only k lines) ≡ token_count lines
unfolding only
only-tokens k [] = refl
only-tokens zero (l ∷ ls) = omega (arith, bare-tokens ls)
only-tokens (suc k) (l ∷ ls) = omega (arith, only-tokens k ls)

only_text : (k : ℕ) (lines : Listing) → text (only k lines) ≡ text lines
unfolding only
only_text k [] = refl
only_text zero (l ∷ ls) = omega (arith, bare_text ls)
only_text (suc k) (l ∷ ls) = omega (arith, only_text k ls)

only-each : (k : ℕ) (lines : Listing) → All LineFits lines → All LineFits (only k lines)
unfolding only
only-each k [] h = tt
only-each zero (l ∷ ls) h = (record { indent = h.0.indent; tokens = h.0.tokens }, bare-each ls h.1)
only-each (suc k) (l ∷ ls) h = (record { indent = h.0.indent; tokens = h.0.tokens }, only-each k ls h.1)

only-addresses : (k : ℕ) (lines : Listing) → All (λ l. AddressFits l.address) (only k lines)
unfolding only
only-addresses k [] = tt
only-addresses zero (l ∷ ls) = (omega arith, bare-address ls)
only-addresses (suc k) (l ∷ ls) = (tt, only-addresses k ls)

pub only-limits : (k : ℕ) (lines : Listing) → Limits lines → Limits (only k lines)
only-limits k lines h =
    record {
      few_lines = omega (arith, h.few_lines, only-length k lines);
      few_tokens = omega (arith, h.few_tokens, only-tokens k lines);
      short_text = omega (arith, h.short_text, only_text k lines);
      each = only-each k lines h.each;
    }

pub only-fits : (k : ℕ) (lines : Listing) → Limits lines → TapeFits (only k lines)
only-fits k lines h = record { limits = only-limits k lines h; addresses = only-addresses k lines }

-- ---- its tape

-- IT NEEDS AT MOST 34,561 BYTES
pub copy-long : (k : ℕ) (lines : Listing) (marks : List Marks) → Limits lines → length (write (only k lines) marks) ≤ 34561
copy-long k lines marks h =
    let m = only-limits k lines h in
    omega (arith, write-length (only k lines) marks, m.few_lines, m.few_tokens, m.short_text)

module _ (tape : List ℕ) (input : Listing) (k : ℕ) (reads : read tape ≡ Passed input) where
  back : (read (only_tape k input) ≡ Passed (only k input)) × (marks_in (only_tape k input) ≡ nones (only k input))
  unfolding only_tape
  back =
      rw (← (write_none (only k input)))
      (read-write (only k input) (nones (only k input)) (only-fits k input (read-limits tape input reads)) (none_fit (only k input)) (length-map (only k input) (λ l. none)))

  -- IT IS ACCEPTED, AND HOLDS THE COPY
  pub copy-reads : read (only_tape k input) ≡ Passed (only k input)
  copy-reads = back.0

  -- AND ITS MARKS ARE NONE
  pub copy-marks : (rules : Rules) → finished_marks rules (only k input) (marks_in (only_tape k input)) ≡ finished_marks rules (only k input) []
  copy-marks rules = ap (finished_marks rules (only k input)) back.1 ∙ marks_none rules (only k input)

  pub copy-length : length (only_tape k input) ≤ 34561
  unfolding only_tape
  copy-length = copy-long k input [] (read-limits tape input reads)
