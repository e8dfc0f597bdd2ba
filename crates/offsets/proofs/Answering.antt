-- The two calls: what each question's answer, and what was written, say of the call. Assumes nothing.
use Prim.Native.Nat.{ℕ, ◌≤◌, ◌<◌}
use native.Mathlib.Omega.{arith}
use mathlib.Core.Path.{◌≡◌, refl, sym, ap, ◌∙◌}
use mathlib.Core.Bool.{Bool, true, false}
use mathlib.Core.List.{List, [], ◌∷◌, ◌++◌}
use mathlib.Core.Option.{none, some}
use lib.ListN.{length}
use borrow.Author.Tests.{leb-true, le-leb, lt-leb}
use Rattle.reference.specs.Control.{let_some◌else◌then◌}
use Rattle.reference.specs.Listing.{Listing}
use Rattle.reference.specs.Tape.{old, offsets, header, write_by}
use Rattle.reference.specs.Questions.{Answer, Refused, Passed, let_passed◌then◌, read_by, marks_in_by}
use Rattle.reference.proofs.Cases.{by-some}
use Rattle.reference.proofs.Reading.{ask-yes, ask_no, refused_passed, by_passed, let_refused, let_is}
use Rattle.answers.proofs.Numbers.{numbered}
use Rattle.answers.specs.Answers.{Writes}
use Rattle.answers.specs.declared.Reason.{Reason}
use Rattle.answers.specs.declared.Refusal.{Refusal}
use Rattle.answers.specs.Refusals.{number_of, refusing}
use Rattle.std.specs.Prelude.{Result, Ok, Err}
use Rattle.std.specs.Result.{MatchResult, IsErrAnd}
use Rattle.text.specs.Cursor.{Puts}
use Rattle.text.specs.declared.cursor.Cursor.{Cursor}
use Rattle.text.proofs.Cursors.{then_puts, at_front}
use Rattle.tape.specs.Bytes as Lists
use Rattle.tape.specs.Commands.{form_of}
use Rattle.tape.specs.Questions.{first_no}
use Rattle.tape.proofs.little_endian.Bytes.{put_front, puts_written}
use Rattle.tape.proofs.questions.Asking.{none_no, ask_number}
use Rattle.offsets.specs.Offsets.{OUTPUT, has_output, front, base_of, begins_with_06, has_base, read_offsets, move_lines, move_all_marks, first_with, convert, to_offsets, from_offsets}
use Rattle.offsets.specs.Calls.{other_form, bad_for, moved_by, Ready, reach_answer, ready_answer, Fronted, Converts}

pub no_first_byte : (tape : List ℕ) → length tape ≡ 0 → begins_with_06 tape ≡ false
unfolding begins_with_06
no_first_byte [] h = refl
no_first_byte (b ∷ more) h = absurd (omega arith)

-- ---- a call that is refused, and one that has written its bytes

module _ {answer : Answer (List ℕ)} where
  pub refused_call : (out : List ℕ) {n p : ℕ} → answer ≡ Refused n p → Writes answer out out (Refused n p)
  refused_call out e = rw e (record { reply_is = refl; output_is = refl })

  pub written-call : {bytes out out' : List ℕ} {end : ℕ} → answer ≡ Passed bytes → Lists.Puts out 0 bytes out' end → Writes answer out out' (Passed end)
  written-call {bytes} {out} e p =
      rw e (record { reply_is = ap Passed (omega (arith, p.ends)); output_is = p.holds ∙ put_front out bytes })

-- ---- the tape's questions, and 18

module _ (based : Bool) (base : ℕ) (tape : List ℕ) where
  pub reach_none : none ≡ first_with (form_of based) (bad_for based base) tape → Passed 0 ≡ reach_answer based base tape
  unfolding reach_answer let_some◌else◌then◌
  reach_none e = rw (← e)

  pub reach_some : {place : ℕ} → some place ≡ first_with (form_of based) (bad_for based base) tape → Refused 18 place ≡ reach_answer based base tape
  unfolding reach_answer let_some◌else◌then◌
  reach_some e = rw (← e)

  pub ready_refused : {n p : ℕ} → read_by (form_of based) tape ≡ Refused n p → Refused n p ≡ ready_answer based base tape
  unfolding ready_answer
  ready_refused e = sym (let_refused _ e)

  pub ready_reach : {lines : Listing} {r : Answer ℕ} → read_by (form_of based) tape ≡ Passed lines → r ≡ reach_answer based base tape
      → r ≡ ready_answer based base tape
  unfolding ready_answer
  ready_reach e f = f ∙ sym (let_is _ e)

  reach_clear : {v : ℕ} → Passed v ≡ reach_answer based base tape → first_with (form_of based) (bad_for based base) tape ≡ none
  unfolding reach_answer
  reach_clear {v} =
      by-some (λ (x : Answer ℕ). Passed v ≡ x → first_with (form_of based) (bad_for based base) tape ≡ none)
      (λ n e. n)
      (λ place u e. absurd (refused_passed (sym e)))

  reach_bad : {n p : ℕ} → Refused n p ≡ reach_answer based base tape → (first_with (form_of based) (bad_for based base) tape ≡ some p) × (n ≡ 18)
  unfolding reach_answer
  reach_bad {n} {p} =
      by-some (λ (x : Answer ℕ). Refused n p ≡ x → (first_with (form_of based) (bad_for based base) tape ≡ some p) × (n ≡ 18))
      (λ none e. absurd (refused_passed e))
      (λ place u e. (let z : p ≡ place = cc in u ∙ ap some (sym z), cc))

  -- no question refuses
  pub ready_is : {v : ℕ} → Passed v ≡ ready_answer based base tape → Ready based base tape
  unfolding ready_answer
  ready_is {v} =
      by_passed (λ (x : Answer ℕ). Passed v ≡ x → Ready based base tape)
      (λ n p u e. absurd (refused_passed (sym e)))
      (λ lines u e. record { read = record { lines = lines; reads = u }; none_bad = reach_clear e })

  module _ (begin : List ℕ) where
    abbrev rest : Answer (List ℕ)
    rest = let_passed (read_by (form_of based) tape) then convert (form_of based) (other_form based) (bad_for based base) (moved_by based base) begin tape

    -- and a question refuses
    pub convert_refused : {n p : ℕ} → Refused n p ≡ ready_answer based base tape → rest ≡ Refused n p
    unfolding ready_answer convert let_some◌else◌then◌
    convert_refused {n} {p} =
        by_passed (λ (x : Answer ℕ). Refused n p ≡ x → rest ≡ Refused n p)
        (λ m q u e. let_refused _ u ∙ (let z : m ≡ n = cc in let y : q ≡ p = cc in λ i. Refused (z i) (y i)))
        (λ lines u e. (let b = reach_bad e in let_is _ u ∙ rw (b.0, b.1)))

    pub convert_ready : (k : Ready based base tape)
        → rest ≡ Passed (begin ++ write_by (other_form based) (move_lines (moved_by based base) k.read.lines) (move_all_marks (moved_by based base) (marks_in_by (form_of based) tape)))
    unfolding convert let_some◌else◌then◌
    convert_ready k = let_is _ k.read.reads ∙ rw k.none_bad

-- ---- on the way there

module _ (base : ℕ) (tape : List ℕ) (output : ℕ) where
  pub to_small : output < 59146 → to_offsets base tape output ≡ Refused 2 0
  unfolding to_offsets has_output
  to_small h = ask_no _ [] _ [] _ tt (lt-leb OUTPUT output h)

  module _ (room : 59146 ≤ output) where
    pub to_refused : {n p : ℕ} → Refused n p ≡ ready_answer false base tape → to_offsets base tape output ≡ Refused n p
    unfolding to_offsets has_output
    to_refused e = ask-yes _ _ _ (le-leb OUTPUT output room, tt) ∙ convert_refused false base tape (front base) e

    pub to_ready : (k : Ready false base tape) → to_offsets base tape output
        ≡ Passed (front base ++ write_by offsets (move_lines (moved_by false base) k.read.lines) (move_all_marks (moved_by false base) (marks_in_by old tape)))
    unfolding to_offsets has_output
    to_ready k = ask-yes _ _ _ (le-leb OUTPUT output room, tt) ∙ convert_ready false base tape (front base) k

-- ---- and back

module _ (tape : List ℕ) (output : ℕ) where
  pub from-small : output < 59146 → from_offsets tape output ≡ Refused 2 0
  unfolding from_offsets has_output
  from-small h = ask_no _ [] _ [] _ tt (lt-leb OUTPUT output h)

  module _ (room : 59146 ≤ output) where
    from_front : {n : ℕ} → n ≡ first_no ((19, begins_with_06 tape) ∷ (4, has_base tape) ∷ []) → (n ≡ 0 → ⊥) → from_offsets tape output ≡ Refused n 0
    unfolding from_offsets has_output read_offsets
    from_front e z = ask-yes _ _ _ (le-leb OUTPUT output room, tt) ∙ let_refused _ (ask_number _ _ _ z (sym e))

    -- of what `map_err` and `?` make of the answer
    pub from_early : {A : Type 0} (o : Result A Reason) → refusing o ≡ first_no ((19, begins_with_06 tape) ∷ (4, has_base tape) ∷ []) → {m : Result A Refusal}
        → MatchResult o (λ a. m ≡ Ok a) (λ r. IsErrAnd m (λ x. x ≡ record { reason = r; place = 0 })) → (x : Refusal) → m ≡ Err x
        → from_offsets tape output ≡ Refused (number_of x.reason) x.place
    from_early (Ok a) e h x is = cc
    from_early (Err r) e h x is = let same : x ≡ record { reason = r; place = 0 } = rw is at h in rw same (from_front e (numbered r))

    module _ (f : Fronted tape) where
      begun : read_offsets tape ≡ read_by offsets tape
      unfolding read_offsets has_base
      begun = ask-yes _ _ _ (f.begins, (le-leb (header offsets) (length tape) f.long, tt))

      from-rest : from_offsets tape output
          ≡ (let_passed (read_by offsets tape) then convert offsets old (bad_for true (base_of tape)) (moved_by true (base_of tape)) [] tape)
      unfolding from_offsets has_output
      from-rest = ask-yes _ _ _ (le-leb OUTPUT output room, tt) ∙ rw begun

      pub from_refused : {n p : ℕ} → Refused n p ≡ ready_answer true (base_of tape) tape → from_offsets tape output ≡ Refused n p
      from_refused e = from-rest ∙ convert_refused true (base_of tape) tape [] e

      pub from_ready : (k : Ready true (base_of tape) tape) → from_offsets tape output
          ≡ Passed (write_by old (move_lines (moved_by true (base_of tape)) k.read.lines) (move_all_marks (moved_by true (base_of tape)) (marks_in_by offsets tape)))
      from_ready k = from-rest ∙ convert_ready true (base_of tape) tape [] k

-- the front passed
pub fronted : (tape : List ℕ) {n : ℕ} → n ≡ first_no ((19, begins_with_06 tape) ∷ (4, has_base tape) ∷ []) → n ≡ 0 → Fronted tape
unfolding has_base
fronted tape e z =
    let yes = none_no _ (omega arith, (omega arith, tt)) (sym e ∙ z) in
    record { begins = yes.0; long = leb-true _ _ yes.1.0 }

-- ---- what both write

module _ {p₀ p : Cursor} {out out' : List ℕ} (same : p₀.out.now ≡ out) (from : p₀.at ≡ 0) (last : p.out.now ≡ out') where
  -- what is put from the front on is the output
  written-front : {answer : Answer (List ℕ)} {bytes : List ℕ} → answer ≡ Passed bytes → Puts p₀ bytes p → Writes answer out out' (Passed p.at)
  written-front e w = written-call e (puts_written (at_front w same from last))

  pub lowered : (base : ℕ) (tape : List ℕ) {p₁ : Cursor} → Ready false base tape → 59146 ≤ length out → Puts p₀ (front base) p₁
      → Converts false base tape p₁ p → Writes (to_offsets base tape (length out)) out out' (Passed p.at)
  lowered base tape k room w c =
      written-front (to_ready base tape (length out) room k) (then_puts w (omega (arith, from)) (c k.read.lines k.read.reads))

  pub raised : (tape : List ℕ) → Fronted tape → 59146 ≤ length out → Ready true (base_of tape) tape → Converts true (base_of tape) tape p₀ p
      → Writes (from_offsets tape (length out)) out out' (Passed p.at)
  raised tape f room k c = written-front (from_ready tape (length out) room f k) (c k.read.lines k.read.reads)
