-- The place that a reading has come to, as a loop's invariant: what each answer at one command says of the whole tape. Assumes nothing.
use Prim.Native.Nat.{ℕ, ◌<◌, ◌≤◌}
use native.Mathlib.Omega.{arith}
use mathlib.Core.Path.{◌≡◌, refl, sym, ap, ◌∙◌}
use mathlib.Core.Bool.{true, false}
use mathlib.Core.List.{List, []}
use lib.ListN.{length}
use Rattle.reference.specs.Control.{when◌then◌else◌}
use Rattle.reference.specs.Listing.{Listing}
use Rattle.reference.specs.Spans.{Marks}
use Rattle.reference.specs.Tape.{TapeForm, old, header}
use Rattle.reference.specs.Questions.{Totals, Answer, Refused, Passed, let_passed◌then◌, Advance, read_command_by, is_end, add, no_commands, read_by, add_marks, marks_in_by}
use Rattle.reference.proofs.Reading.{refused_passed, by_passed, let_refused, let_is, command_passed_by, advances, reading_by, reading_step_by, ReachedBy, here, on, reading_of, AcceptsBy}
use Rattle.reference.proofs.Reading.{accepted, marks-read}
use Rattle.reference.proofs.Tapes.{kept}
use Rattle.tape.specs.Questions.{Sizes, sizes_in, AcceptedTape, ReadOne}

-- the reading comes to this offset with these totals
pub record ReadsBy (form : TapeForm) (tape : List ℕ) (at : ℕ) (t : Totals) : Type 0 where
  pub lines : Listing
  pub marks : List Marks
  pub reached : ReachedBy form tape (record { at = at; totals = t; lines = lines; marks = marks })

abbrev pub reads_begin : (form : TapeForm) (tape : List ℕ) → ReadsBy form tape (header form) (no_commands)
reads_begin form tape = record { lines = []; marks = []; reached = here }

module _ {form : TapeForm} {tape : List ℕ} {at : ℕ} {t : Totals} (r : ReadsBy form tape at t) where
  step_of : read_by form tape
      ≡ (let_passed (read_command_by form tape at t) then λ a.
      when is_end a.command then Passed r.lines else reading_by form tape a.next a.totals (add a.command r.lines))
  step_of = reading_of tape r.reached ∙ reading_step_by form tape at t r.lines

  pub read_refused : {n p : ℕ} → Refused n p ≡ read_command_by form tape at t → read_by form tape ≡ Refused n p
  read_refused e = step_of ∙ let_refused _ (sym e)

  module _ {a : Advance} (e : Passed a ≡ read_command_by form tape at t) where
    pub moves : (at < a.next) × (a.next ≤ length tape)
    moves =
        let p = command_passed_by form tape at t a (sym e) in
        omega (arith, advances tape at t p.0, ap (λ (a : Advance). a.next) p.1)

    abbrev pub reads_on : is_end a.command ≡ false → ReadsBy form tape a.next a.totals
    reads_on n =
        let p = command_passed_by form tape at t a (sym e) in
        record {
          lines = add a.command r.lines;
          marks = add_marks a.command r.marks;
          reached = rw p.1 (on r.reached p.0 (rw p.1 at n));
        }

    abbrev ends_here : is_end a.command ≡ true → AcceptsBy form tape r.lines
    ends_here n =
        let p = command_passed_by form tape at t a (sym e) in
        record {
          state = record { at = at; totals = t; lines = r.lines; marks = r.marks };
          reached = r.reached;
          passes = p.0;
          ends = rw p.1 at n;
          listing = refl;
        }

    pub read_passed : is_end a.command ≡ true → read_by form tape ≡ Passed r.lines
    read_passed n = accepted tape r.lines (ends_here n)

    -- and the 03s are those that it came to
    pub marks_passed : is_end a.command ≡ true → marks_in_by form tape ≡ r.marks
    marks_passed n = marks-read tape r.lines (ends_here n)

  pub read_ended : (a : Advance) × ReadOne form tape at t true a → read_by form tape ≡ Passed r.lines
  read_ended e = read_passed e.1.passes e.1.ends

  pub sizes_are : record { lines = t.lines; tokens = t.tokens; text = t.text } ≡ sizes_in r.lines
  sizes_are = let k = kept tape r.reached in λ i. record { lines = k.lines i; tokens = k.tokens i; text = k.text i }

abbrev pub Reads : List ℕ → ℕ → Totals → Type 0
Reads = ReadsBy old

-- ---- what `check` answers

abbrev pub VerdictBy : TapeForm → List ℕ → Answer Sizes
VerdictBy form tape = let_passed (read_by form tape) then λ lines. Passed (sizes_in lines)

module _ (form : TapeForm) (tape : List ℕ) where
  pub verdict_refused : {n p : ℕ} → read_by form tape ≡ Refused n p → Refused n p ≡ VerdictBy form tape
  verdict_refused e = sym (let_refused _ e)

  pub verdict_passed : {lines : Listing} → read_by form tape ≡ Passed lines → Passed (sizes_in lines) ≡ VerdictBy form tape
  verdict_passed e = sym (let_is _ e)

  -- and what its answers say of the tape
  pub refused_verdict : {n p : ℕ} → Refused n p ≡ VerdictBy form tape → read_by form tape ≡ Refused n p
  refused_verdict {n} {p} =
      by_passed (λ (x : Answer Sizes). Refused n p ≡ x → read_by form tape ≡ Refused n p)
      (λ number place u e. u ∙ sym (let z = e in cc))
      (λ lines u e. absurd (refused_passed e))

  pub passed_verdict : {t : Sizes} → Passed t ≡ VerdictBy form tape → (lines : Listing) × (read_by form tape ≡ Passed lines)
  passed_verdict {t} =
      by_passed (λ (x : Answer Sizes). Passed t ≡ x → (lines : Listing) × (read_by form tape ≡ Passed lines))
      (λ number place u e. absurd (refused_passed (sym e)))
      (λ lines u e. (lines, u))

-- of the old form
module _ (tape : List ℕ) where
  pub refused_by : {n p : ℕ} → Refused n p ≡ VerdictBy old tape → read_by old tape ≡ Refused n p
  refused_by = refused_verdict old tape

  pub accepted_by : {t : Sizes} → Passed t ≡ VerdictBy old tape → AcceptedTape tape
  accepted_by e = let k = passed_verdict old tape e in record { listing = k.0; reads = k.1 }
