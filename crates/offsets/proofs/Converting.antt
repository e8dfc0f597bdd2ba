-- One conversion: the tape that it writes is accepted in the other form and holds the same listing and marks, each address moved; and the conversion back
-- gives the identical tape. Assumes nothing.
use Prim.Native.Nat.{ℕ, ◌≤◌, ◌<◌, ◌^◌}
use native.Mathlib.Omega.{arith}
use mathlib.Core.Path.{◌≡◌}
use mathlib.Core.Bool.{Bool, false}
use mathlib.Core.List.{List, [], ◌∷◌, ◌++◌}
use mathlib.Core.Option.{Option, none, some}
use lib.ListN.{length, drop}
use Rattle.reference.specs.Control.{let_some◌else◌then◌}
use Rattle.reference.specs.Listing.{Listing}
use Rattle.reference.specs.Spans.{Marks}
use Rattle.reference.specs.Tape.{TapeForm, header, width, write_by}
use Rattle.reference.specs.Questions.{Passed, read_by, marks_in_by}
use Rattle.reference.proofs.LittleEndian.{Bytes}
use Rattle.reference.proofs.Limits.{All}
use Rattle.reference.proofs.Tapes.{read-limits_by, read-fits_by, read-marks_fit_by, write-read_by}
use Rattle.reference.proofs.Written.{read-write_by}
use Rattle.offsets.specs.Offsets.{move_lines, move_all_marks, first_with, convert}
use Rattle.offsets.proofs.Moving.{OfAddress, OfLine, OfMarks, moved_length, moved-marks-length, moved-limits, moved-lines-are, moved-marks-are, moved_ordered, lines-back, marks-back, Short}
use Rattle.offsets.proofs.Moving.{short-lines, fitting-lines, short-marks, fitting-marks}
use Rattle.offsets.proofs.Firsts.{Good, none_bad_in, no_bad_in}

-- Q and R of every address there
both_lines : (Q R : ℕ → Type 0) (lines : Listing) → All (OfLine Q) lines → All (OfLine R) lines → All (OfLine (λ a. Q a × R a)) lines
both_lines Q R [] h k = tt
both_lines Q R (l ∷ ls) h k = (one l.address h.0 k.0, both_lines Q R ls h.1 k.1)
  where
    one : (o : Option ℕ) → OfAddress Q o → OfAddress R o → OfAddress (λ a. Q a × R a) o
    one none u v = tt
    one (some a) u v = (u, v)

both_marks : (Q R : ℕ → Type 0) (marks : List Marks) → All (OfMarks Q) marks → All (OfMarks R) marks → All (OfMarks (λ a. Q a × R a)) marks
both_marks Q R [] h k = tt
both_marks Q R (m ∷ ms) h k = (one m h.0 k.0, both_marks Q R ms h.1 k.1)
  where
    one : (m : Marks) → OfMarks Q m → OfMarks R m → OfMarks (λ a. Q a × R a) m
    one none u v = tt
    one (some s) u v = ((u.0, v.0), (u.1, v.1))

module _ (form other : TapeForm) (bad : ℕ → Bool) (f : ℕ → ℕ) where
  -- an address that the form can hold and that 18 lets pass
  abbrev pub Passing : ℕ → Type 0
  Passing a = (a < 256 ^ width form) × (bad a ≡ false)

  -- what f does to these: the other form can hold them, in the same order
  pub record Carries : Type 0 where
    pub short : (a : ℕ) → Passing a → f a < 256 ^ width other
    pub rising : (a b : ℕ) → Passing a → Passing b → a ≤ b → f a ≤ f b

  module _ (begin tape : List ℕ) (lines : Listing) (n : length begin ≡ header other) (bytes : Bytes tape) (reads : read_by form tape ≡ Passed lines)
      (none_bad : first_with form bad tape ≡ none) where
    abbrev pub written : List ℕ
    written = begin ++ write_by other (move_lines f lines) (move_all_marks f (marks_in_by form tape))

    pub passing_lines : All (OfLine Passing) lines
    passing_lines = both_lines (Short form) (Good bad) lines (short-lines form lines (read-fits_by form tape lines bytes reads)) (none_bad_in bad form tape lines reads none_bad).0

    pub passing_marks : All (OfMarks Passing) (marks_in_by form tape)
    passing_marks =
        both_marks (Short form) (Good bad) (marks_in_by form tape)
        (short-marks form (marks_in_by form tape) (read-marks_fit_by form tape lines bytes reads).0).0
        (none_bad_in bad form tape lines reads none_bad).1

    -- WHAT IS WRITTEN IS ACCEPTED IN THE OTHER FORM, and holds the same listing and marks, each address moved
    pub holds : Carries → (read_by other written ≡ Passed (move_lines f lines)) × (marks_in_by other written ≡ move_all_marks f (marks_in_by form tape))
    holds c =
        let marks : List Marks = marks_in_by form tape in
        let m = read-marks_fit_by form tape lines bytes reads in
        read-write_by other begin (move_lines f lines) (move_all_marks f marks) n
        (fitting-lines other (move_lines f lines) (moved-limits f lines (read-limits_by form tape lines reads)) (moved-lines-are Passing (Short other) f c.short lines passing_lines))
        (fitting-marks other (move_all_marks f marks) (moved-marks-are Passing (Short other) f c.short marks passing_marks)
        (moved_ordered Passing f c.rising marks passing_marks (short-marks form marks m.0).1))
        (omega (arith, moved_length f lines, moved-marks-length f marks, m.1))

    -- THERE AND BACK: g takes f back, and what f gives is not refused
    pub and_back : Carries → (bad' : ℕ → Bool) (g : ℕ → ℕ) (begin' : List ℕ) → ((a : ℕ) → Passing a → bad' (f a) ≡ false) → ((a : ℕ) → Passing a → g (f a) ≡ a)
        → convert other form bad' g begin' written (move_lines f lines) ≡ Passed (begin' ++ drop (header form) tape)
    unfolding convert let_some◌else◌then◌
    and_back c bad' g begin' fine inverse =
        let marks : List Marks = marks_in_by form tape in
        let h = holds c in
        let clear : first_with other bad' written ≡ none =
        no_bad_in bad' other written (move_lines f lines) h.0 (moved-lines-are Passing (Good bad') f fine lines passing_lines)
        (rw h.1 (moved-marks-are Passing (Good bad') f fine marks passing_marks)) in
        rw (clear, h.1, lines-back Passing f g inverse lines passing_lines, marks-back Passing f g inverse marks passing_marks, write-read_by form tape lines bytes reads)
