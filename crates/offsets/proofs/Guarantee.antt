-- M-110'S PROMISES. For every tape of bytes and base below 2^64 that a call does not refuse: what it writes is accepted in the other form and holds the same
-- listing and marks, addresses by the base (`to_same`, `from_same`); there and back at the same base gives the identical tape, both ways (`to_and_back`,
-- `from_and-back`); it fits the output, which keeps its length (`to_length`, `from-length`, `same_length`). Assumes nothing.
use Prim.Native.Nat.{ℕ, suc, ◌+◌, ◌-◌, ◌≤◌, ◌<◌, ◌^◌}
use native.Mathlib.Omega.{arith}
use mathlib.Core.Path.{◌≡◌, refl, sym, ap, ◌∙◌}
use mathlib.Core.Bool.{Bool, true, false}
use mathlib.Core.List.{List, [], ◌∷◌, ◌++◌}
use mathlib.Core.Option.{none}
use lib.ListN.{length, drop, length-append, length-drop, take-append-drop}
use borrow.Author.Tests.{leb-true, leb-false, ltb-false, le-leb, le-ltb, lt-leb, eqb-true}
use Rattle.reference.specs.Control.{◌or◌}
use Rattle.reference.specs.Listing.{Listing}
use Rattle.reference.specs.Tape.{to_le_bytes, TapeForm, old, offsets, header, write_by, write}
use Rattle.reference.specs.Questions.{Answer, Refused, Passed, read_by, read, marks_in_by, marks_in}
use Rattle.reference.proofs.Cases.{by-some, neither}
use Rattle.reference.proofs.LittleEndian.{Bytes, from_to, to_take}
use Rattle.reference.proofs.Reading.{ask-yes, ask_passed, by_passed, let_is, refused_passed, passed_inj}
use Rattle.reference.proofs.Writing.{write-length_by}
use Rattle.reference.proofs.Tapes.{read-limits_by}
use Rattle.offsets.specs.Offsets.{OUTPUT, has_output, front, base_of, begins_with_06, has_base, read_offsets, move_lines, move_all_marks, first_with, out_of_reach, wraps, convert, to_offsets}
use Rattle.offsets.specs.Offsets.{from_offsets}
use Rattle.answers.specs.Answers.{output_after}
use Rattle.offsets.proofs.Moving.{moved-limits, lines-back, marks-back}
use Rattle.offsets.proofs.Converting.{Passing, Carries, passing_lines, passing_marks, holds, and_back}

-- ---- the addresses

-- on the way there
abbrev pub down : ℕ → ℕ → ℕ
down base address = address - base

-- and back
abbrev pub up : ℕ → ℕ → ℕ
up base offset = base + offset

pub reached : (base a : ℕ) → out_of_reach base a ≡ false → (base ≤ a) × (a < base + 2 ^ 32)
unfolding out_of_reach
reached base a e = let n = neither e in (ltb-false _ _ n.0, leb-false _ _ n.1)

in_reach : (base a : ℕ) → base ≤ a → a < base + 2 ^ 32 → out_of_reach base a ≡ false
unfolding out_of_reach ◌or◌
in_reach base a low high = rw (le-ltb a base low) (lt-leb (base + 2 ^ 32) a high)

pub sum_fits : (base o : ℕ) → wraps base o ≡ false → base + o < 2 ^ 64
unfolding wraps
sum_fits base o e = leb-false (2 ^ 64) (base + o) e

sum-passes : (base o : ℕ) → base + o < 2 ^ 64 → wraps base o ≡ false
unfolding wraps
sum-passes base o h = lt-leb (2 ^ 64) (base + o) h

module _ (base : ℕ) where
  carries_down : Carries old offsets (out_of_reach base) (down base)
  carries_down = record { short = λ a p. (let r = reached base a p.1 in omega (arith, r.0, r.1)); rising = λ a b p q h. omega arith }

  carries_up : Carries offsets old (wraps base) (up base)
  carries_up = record { short = λ o p. sum_fits base o p.1; rising = λ a b p q h. omega arith }

  fine_down : (a : ℕ) → Passing old offsets (out_of_reach base) (down base) a → wraps base (down base a) ≡ false
  fine_down a p = let r = reached base a p.1 in sum-passes base (a - base) (omega (arith, r.0, p.0))

  back-down : (a : ℕ) → Passing old offsets (out_of_reach base) (down base) a → up base (down base a) ≡ a
  back-down a p = let r = reached base a p.1 in omega (arith, r.0)

  fine_up : (o : ℕ) → Passing offsets old (wraps base) (up base) o → out_of_reach base (up base o) ≡ false
  fine_up o p = in_reach base (base + o) (omega arith) (omega (arith, p.0))

  back-up : (o : ℕ) → Passing offsets old (wraps base) (up base) o → down base (up base o) ≡ o
  back-up o p = omega arith

-- ---- 06 and the base

front_length : (base : ℕ) → length (front base) ≡ header offsets
unfolding front to_le_bytes
front_length base = refl

-- what a tape of the new form begins with, written and read
pub base-written : (base : ℕ) (more : List ℕ) → base < 2 ^ 64 → base_of (front base ++ more) ≡ base
unfolding base_of front to_le_bytes
base-written base more h = from_to 8 base h

reads-front : (base : ℕ) (more : List ℕ) → read_offsets (front base ++ more) ≡ read_by offsets (front base ++ more)
unfolding read_offsets begins_with_06 has_base front to_le_bytes
reads-front base more = ask-yes _ _ _ (refl, (le-leb (header offsets) (length (front base ++ more)) (omega (arith, length-append (front base) more, front_length base)), tt))

pub record Begun (tape : List ℕ) (lines : Listing) : Type 0 where
  pub begins : begins_with_06 tape ≡ true
  pub long : header offsets ≤ length tape
  pub reads : read_by offsets tape ≡ Passed lines

pub begun : (tape : List ℕ) (lines : Listing) → read_offsets tape ≡ Passed lines → Begun tape lines
unfolding read_offsets has_base
begun tape lines e = let r = ask_passed _ _ _ lines e in record { begins = r.0.0; long = leb-true _ _ r.0.1.0; reads = r.1 }

front_read : (tape : List ℕ) → Bytes tape → begins_with_06 tape ≡ true → header offsets ≤ length tape → front (base_of tape) ++ drop (header offsets) tape ≡ tape
unfolding front base_of begins_with_06
front_read [] h b n = absurd (omega arith)
front_read (x ∷ more) h b n =
    let e : x ≡ 0x06 = eqb-true x 0x06 b in
    rw (to_take 8 more (λ i. h (suc i)) (omega arith), e) (ap (λ (s : List ℕ). 0x06 ∷ s) (take-append-drop 8 more))

-- ---- calls that are not refused

converted : (form other : TapeForm) (bad : ℕ → Bool) (f : ℕ → ℕ) (begin tape : List ℕ) (lines : Listing) (out : List ℕ)
    → convert form other bad f begin tape lines ≡ Passed out
    → (first_with form bad tape ≡ none) × (out ≡ begin ++ write_by other (move_lines f lines) (move_all_marks f (marks_in_by form tape)))
unfolding convert
converted form other bad f begin tape lines out =
    by-some (λ (x : Answer (List ℕ)). x ≡ Passed out → (first_with form bad tape ≡ none) × (out ≡ begin ++ write_by other (move_lines f lines) (move_all_marks f (marks_in_by form tape))))
    (λ n e. (n, sym (passed_inj e)))
    (λ place u e. absurd (refused_passed e))

pub record Down (base : ℕ) (tape : List ℕ) (output : ℕ) (out : List ℕ) : Type 0 where
  pub lines : Listing
  pub room : OUTPUT ≤ output
  pub reads : read tape ≡ Passed lines
  pub none_far : first_with old (out_of_reach base) tape ≡ none
  pub out_is : out ≡ front base ++ write_by offsets (move_lines (down base) lines) (move_all_marks (down base) (marks_in tape))

pub record Up (tape : List ℕ) (output : ℕ) (out : List ℕ) : Type 0 where
  pub lines : Listing
  pub room : OUTPUT ≤ output
  pub reads : read_offsets tape ≡ Passed lines
  pub none_wraps : first_with offsets (wraps (base_of tape)) tape ≡ none
  pub out_is : out ≡ write (move_lines (up (base_of tape)) lines) (move_all_marks (up (base_of tape)) (marks_in_by offsets tape))

pub to_passed : (base : ℕ) (tape : List ℕ) (output : ℕ) (out : List ℕ) → to_offsets base tape output ≡ Passed out → Down base tape output out
unfolding to_offsets has_output
to_passed base tape output out e =
    let r = ask_passed _ _ _ out e in
    by_passed (λ (x : Answer (List ℕ)). x ≡ Passed out → Down base tape output out)
    (λ number place u e. absurd (refused_passed e))
    (λ lines reads e.
    (let c = converted old offsets (out_of_reach base) (down base) (front base) tape lines out e in
    record { lines = lines; room = leb-true _ _ r.0.0; reads = reads; none_far = c.0; out_is = c.1 }))
    r.1

pub from_passed : (tape : List ℕ) (output : ℕ) (out : List ℕ) → from_offsets tape output ≡ Passed out → Up tape output out
unfolding from_offsets has_output
from_passed tape output out e =
    let r = ask_passed _ _ _ out e in
    by_passed (λ (x : Answer (List ℕ)). x ≡ Passed out → Up tape output out)
    (λ number place u e. absurd (refused_passed e))
    (λ lines reads e.
    (let c = converted offsets old (wraps (base_of tape)) (up (base_of tape)) [] tape lines out e in
    record { lines = lines; room = leb-true _ _ r.0.0; reads = reads; none_wraps = c.0; out_is = c.1 }))
    r.1

-- ---- the same listing and the same marks

-- a tape of the old form and one of the new hold the same listing and marks, addresses by the base
pub record Same (tape by-offset : List ℕ) : Type 0 where
  pub lines : Listing
  pub relative : Listing
  pub reads : read tape ≡ Passed lines
  pub reads_offsets : read_offsets by-offset ≡ Passed relative
  pub lines_are : move_lines (up (base_of by-offset)) relative ≡ lines
  pub marks_are : move_all_marks (up (base_of by-offset)) (marks_in_by offsets by-offset) ≡ marks_in tape

module _ (base : ℕ) (tape : List ℕ) (lines : Listing) (b : base < 2 ^ 64) (h : Bytes tape) (reads : read tape ≡ Passed lines)
    (none_far : first_with old (out_of_reach base) tape ≡ none) where
  abbrev lowered : List ℕ
  lowered = front base ++ write_by offsets (move_lines (down base) lines) (move_all_marks (down base) (marks_in tape))

  lowered-base : base_of lowered ≡ base
  lowered-base = base-written base _ b

  lowered-holds : (read_offsets lowered ≡ Passed (move_lines (down base) lines)) × (marks_in_by offsets lowered ≡ move_all_marks (down base) (marks_in tape))
  lowered-holds =
      let k = holds old offsets (out_of_reach base) (down base) (front base) tape lines (front_length base) h reads none_far (carries_down base) in
      (reads-front base _ ∙ k.0, k.1)

  lowered_same : Same tape lowered
  lowered_same =
      let P : ℕ → Type 0 = Passing old offsets (out_of_reach base) (down base) in
      record {
        lines = lines;
        relative = move_lines (down base) lines;
        reads = reads;
        reads_offsets = lowered-holds.0;
        lines_are =
            ap (λ (b : ℕ). move_lines (up b) (move_lines (down base) lines)) lowered-base
            ∙ lines-back P (down base) (up base) (back-down base) lines (passing_lines old offsets (out_of_reach base) (down base) (front base) tape lines (front_length base) h reads none_far);
        marks_are =
            (λ i. move_all_marks (up (lowered-base i)) (lowered-holds.1 i))
            ∙ marks-back P (down base) (up base) (back-down base) (marks_in tape)
            (passing_marks old offsets (out_of_reach base) (down base) (front base) tape lines (front_length base) h reads none_far);
      }

  lowered-back : (output : ℕ) → OUTPUT ≤ output → from_offsets lowered output ≡ Passed tape
  unfolding from_offsets has_output
  lowered-back output room =
      ask-yes _ _ _ (le-leb OUTPUT output room, tt)
      ∙ let_is _ lowered-holds.0
      ∙ ap (λ (b : ℕ). convert offsets old (wraps b) (up b) [] lowered (move_lines (down base) lines)) lowered-base
      ∙ and_back old offsets (out_of_reach base) (down base) (front base) tape lines (front_length base) h reads none_far (carries_down base)
      (wraps base) (up base) [] (fine_down base) (back-down base)

module _ (tape : List ℕ) (lines : Listing) (h : Bytes tape) (g : Begun tape lines) (none_wraps : first_with offsets (wraps (base_of tape)) tape ≡ none) where
  abbrev base : ℕ
  base = base_of tape

  abbrev raised : List ℕ
  raised = write (move_lines (up base) lines) (move_all_marks (up base) (marks_in_by offsets tape))

  raised-holds : (read raised ≡ Passed (move_lines (up base) lines)) × (marks_in raised ≡ move_all_marks (up base) (marks_in_by offsets tape))
  raised-holds = holds offsets old (wraps base) (up base) [] tape lines refl h g.reads none_wraps (carries_up base)

  raised_same : read_offsets tape ≡ Passed lines → Same raised tape
  raised_same e =
      record {
        lines = move_lines (up base) lines;
        relative = lines;
        reads = raised-holds.0;
        reads_offsets = e;
        lines_are = refl;
        marks_are = sym raised-holds.1;
      }

  raised-back : (output : ℕ) → OUTPUT ≤ output → to_offsets (base_of tape) raised output ≡ Passed tape
  unfolding to_offsets has_output
  raised-back output room =
      ask-yes _ _ _ (le-leb OUTPUT output room, tt)
      ∙ let_is _ raised-holds.0
      ∙ and_back offsets old (wraps base) (up base) [] tape lines refl h g.reads none_wraps (carries_up base) (out_of_reach base) (down base) (front base) (fine_up base) (back-up base)
      ∙ ap Passed (front_read tape h g.begins g.long)

-- THE PROMISES, on the way there
module _ (base : ℕ) (tape : List ℕ) (output : ℕ) (out : List ℕ) (b : base < 2 ^ 64) (h : Bytes tape) (e : to_offsets base tape output ≡ Passed out) where
  -- the new tape's base is the one that was given
  pub to_base : base_of out ≡ base
  to_base = let d = to_passed base tape output out e in rw d.out_is (lowered-base base tape d.lines b h d.reads d.none_far)

  -- WHAT IS WRITTEN IS ACCEPTED IN THE NEW FORM, and holds the same listing and marks
  pub to_same : Same tape out
  to_same = let d = to_passed base tape output out e in rw d.out_is (lowered_same base tape d.lines b h d.reads d.none_far)

  -- THERE AND BACK GIVES THE IDENTICAL TAPE
  pub to_and_back : (output' : ℕ) → OUTPUT ≤ output' → from_offsets out output' ≡ Passed tape
  to_and_back output' room = let d = to_passed base tape output out e in rw d.out_is (lowered-back base tape d.lines b h d.reads d.none_far output' room)

-- and on the way back
module _ (tape : List ℕ) (output : ℕ) (out : List ℕ) (h : Bytes tape) (e : from_offsets tape output ≡ Passed out) where
  -- WHAT IS WRITTEN IS ACCEPTED IN THE OLD FORM, and holds the same listing and marks
  pub from_same : Same out tape
  from_same = let u = from_passed tape output out e in rw u.out_is (raised_same tape u.lines h (begun tape u.lines u.reads) u.none_wraps u.reads)

  -- BACK AND THERE, at the tape's own base, GIVES THE IDENTICAL TAPE
  pub from_and-back : (output' : ℕ) → OUTPUT ≤ output' → to_offsets (base_of tape) out output' ≡ Passed tape
  from_and-back output' room = let u = from_passed tape output out e in rw u.out_is (raised-back tape u.lines h (begun tape u.lines u.reads) u.none_wraps output' room)

-- ---- lengths

-- THE NEW TAPE HAS AT MOST 34,570 BYTES, so the output has room
pub to_length : (base : ℕ) (tape : List ℕ) (output : ℕ) (out : List ℕ) → to_offsets base tape output ≡ Passed out → (length out ≤ 34570) × (length out ≤ output)
to_length base tape output out e =
    let d = to_passed base tape output out e in
    let l = moved-limits (down base) d.lines (read-limits_by old tape d.lines d.reads) in
    let w = write-length_by offsets (move_lines (down base) d.lines) (move_all_marks (down base) (marks_in tape)) in
    let n : length out ≤ 34570 = rw (d.out_is, length-append, front_length base) (omega (arith, w, l.few_lines, l.few_tokens, l.short_text)) in
    (n, omega (arith, d.room))

-- AND BACK AT MOST 34,561
pub from-length : (tape : List ℕ) (output : ℕ) (out : List ℕ) → from_offsets tape output ≡ Passed out → (length out ≤ 34561) × (length out ≤ output)
from-length tape output out e =
    let u = from_passed tape output out e in
    let base : ℕ = base_of tape in
    let l = moved-limits (up base) u.lines (read-limits_by offsets tape u.lines (begun tape u.lines u.reads).reads) in
    let w = write-length_by old (move_lines (up base) u.lines) (move_all_marks (up base) (marks_in_by offsets tape)) in
    let n : length out ≤ 34561 = rw u.out_is (omega (arith, w, l.few_lines, l.few_tokens, l.short_text)) in
    (n, omega (arith, u.room))

-- WHAT IS LENT KEEPS ITS LENGTH
pub same_length : (a : Answer (List ℕ)) (output : List ℕ) → ((out : List ℕ) → a ≡ Passed out → length out ≤ length output) → length (output_after a output) ≡ length output
same_length (Refused number place) output h = refl
same_length (Passed out) output h = rw (length-append, length-drop) (omega (arith, h out refl))
