-- The line of a refusal from its parts, and what each reply of a call shows. Assumes nothing.
use Prim.Native.Nat.{ℕ, ◌≤◌}
use native.Mathlib.Nat.{zero-add}
use native.Mathlib.Omega.{arith}
use mathlib.Core.Path.{◌≡◌, refl, sym, ap, ◌∙◌}
use mathlib.Core.List.{List, [], ◌∷◌, append_assoc}
use lib.ListN.{length, take, drop, length-append}
use lib.Seq.{take_all, take-length, length-take-le}
use native.Mathlib.Decide.{dec_le}
use mathlib.Core.Logic.{by_cases}
use Rattle.reference.specs.Text.{Text, bytes}
use Rattle.reference.specs.Rules.{Rules}
use Rattle.reference.specs.Questions.{WORK, OUTPUT, Answer, Refused, Passed}
use Rattle.reference.specs.Reply.{Reply, reply, output_after}
use Rattle.reference.proofs.Reading.{refused_passed, passed_inj}
use Rattle.io.specs.Counts.{IsPrefixLen}
use Rattle.text.specs.declared.cursor.Cursor.{Cursor}
use Rattle.text.specs.Cursor.{Fits, Puts}
use Rattle.text.proofs.Cursors.{puts_as, then_puts, room_left}
use Rattle.printing.specs.Decimals.{decimal}
use Rattle.printing.proofs.Decimals.{decimal-length}
use Rattle.clean.specs.Replies.{report_of, Summary, answer_of, summary, Cleans}
use Rattle.clean.specs.declared.cleaning.Finished.{Finished}
use Rattle.std.proofs.Common.{Result, Ok, Err, min}
use Rattle.answers.specs.declared.Refusal.{Refusal}
use Rattle.answers.specs.Refusals.{number_of}
use Rattle.filter.specs.Response.{refusal, shown, settings, LONGEST, response, Shows}

-- ---- a refusal, put piece by piece

-- what is put at the front of a slice is shown there
pub at_front : {p p₁ : Cursor} {text out after : Text} → p.out.now ≡ out → p.at ≡ 0 → Puts p text p₁ → after ≡ p₁.out.now → Shows text out after p₁.at
at_front {p} {text = text} e z w f =
    record {
      holds = f ∙ w.written.bytes_are ∙ rw (e, z, take-length, zero-add) refl;
      ends = w.written.end_is ∙ rw (z, zero-add) refl;
    }

pub front_room : (p : Cursor) {out : Text} → p.out.now ≡ out → p.at ≡ 0 → 53 ≤ length out → Fits p 53
front_room p e z h = omega (arith, ap length e)

module _ {p p₁ p₂ : Cursor} (number : ℕ) (w₁ : Puts p (bytes "refused ") p₁) (w₂ : Puts p₁ (decimal number) p₂) (h : Fits p 53) where
  room₁ : Fits p₁ 45
  room₁ = room_left w₁ 45 h

  pub number_room : Fits p₂ 25
  number_room = room_left w₂ 25 (omega (arith, room₁, decimal-length number))

  module _ {p₃ : Cursor} (w₃ : Puts p₂ (bytes " at ") p₃) where
    pub mark_room : Fits p₃ 21
    mark_room = room_left w₃ 21 number_room

    module _ {p₄ : Cursor} (place : ℕ) (w₄ : Puts p₃ (decimal place) p₄) where
      pub place_room : Fits p₄ 1
      place_room = room_left w₄ 1 (omega (arith, mark_room, decimal-length place))

      pub refusal-put : {p₅ : Cursor} → Puts p₄ (10 ∷ []) p₅ → Puts p (refusal number place) p₅
      unfolding refusal
      refusal-put w₅ =
          puts_as
          (then_puts w₁ (omega (arith, h)) (then_puts w₂ (omega (arith, room₁))
          (then_puts w₃ (omega (arith, number_room)) (then_puts w₄ (omega (arith, mark_room)) w₅))))
          (simp append_assoc)

-- ---- what a reply shows

refused_shows : (r : Reply) {n p : ℕ} → Refused n p ≡ summary r → (out : Text) {mid after : Text} {k : ℕ} → mid ≡ output_after r out
    → Shows (refusal n p) mid after k → Shows (shown r) out after k
unfolding output_after shown
refused_shows (Refused number place) {n} {p} e out m h =
    let same_number : n ≡ number = cc in
    let same_place : p ≡ place = cc in
    rw (← same_number, ← same_place, ← m) h
refused_shows (Passed c) e out m h = absurd (refused_passed e)

finished-shows : (r : Reply) {s : Summary} → Passed s ≡ summary r → (out : Text) {after : Text} → after ≡ output_after r out → Shows (shown r) out after s.length
unfolding output_after shown
finished-shows (Refused number place) e out o = absurd (refused_passed (sym e))
finished-shows (Passed c) e out o = record { holds = o; ends = ap (λ (s : Summary). s.length) (passed_inj e) }

module _ (rules : Rules) (tape work_a work_b out : List ℕ) (a : length work_a ≡ WORK) (b : length work_b ≡ WORK) (o : length out ≡ OUTPUT)
    {work-a' work-b' after : List ℕ} (r : Result Finished Refusal)
    (h : Cleans rules tape work_a work_b out work-a' work-b' after (report_of r))
    (v : answer_of r ≡ summary (reply rules tape (length work_a) (length work_b) (length out))) where
  same_answer : {s : Answer Summary} → answer_of r ≡ s → s ≡ summary (reply rules tape WORK WORK OUTPUT)
  same_answer e = sym e ∙ (rw (a, b, o) at v)

  left : after ≡ output_after (reply rules tape WORK WORK OUTPUT) out
  left = rw (a, b, o) at h.leaves.output_is

  pub shows-refusal : (e : Refusal) → r ≡ Err e → {printed : List ℕ} {k : ℕ} → Shows (refusal (number_of e.reason) e.place) after printed k
      → Shows (shown (reply rules tape WORK WORK OUTPUT)) out printed k
  shows-refusal f e p = refused_shows (reply rules tape WORK WORK OUTPUT) (same_answer (ap answer_of e)) out left p

  pub shows-tape : (f : Finished) → r ≡ Ok f → Shows (shown (reply rules tape WORK WORK OUTPUT)) out after f.length
  shows-tape f e = finished-shows (reply rules tape WORK WORK OUTPUT) (same_answer (ap answer_of e)) out left

-- ---- the front of a tape

pub front_cut : (tape : List ℕ) {most : ℕ} → most ≡ LONGEST → take (min most (length tape)) tape ≡ take LONGEST tape
front_cut tape {most} m =
    by_cases (dec_le most (length tape))
    (λ h. let e : min most (length tape) ≡ LONGEST = omega arith in rw e refl)
    (λ h. let e : min most (length tape) ≡ length tape = omega arith in rw e (take-length tape ∙ sym (take_all LONGEST tape (omega arith))))

-- ---- the input: nothing, or a convention byte and a tape

pub responds_none : (input : List ℕ) → length input ≡ 0 → {out after : List ℕ} {r : ℕ} → Shows (refusal 1 0) out after r → Shows (response input) out after r
unfolding response
responds_none [] e h = h
responds_none (x ∷ xs) e h = absurd (omega arith)

pub responds_some : {input : List ℕ} (convention : ℕ) (tape : List ℕ) → input ≡ convention ∷ tape → {out after : List ℕ} {r : ℕ}
    → Shows (shown (reply (settings convention) (take LONGEST tape) WORK WORK OUTPUT)) out after r → Shows (response input) out after r
unfolding response
responds_some convention tape e h = rw e h

-- ---- its length

pub within : {text out after : List ℕ} {r : ℕ} → Shows text out after r → IsPrefixLen r after
within {text} {out} {after} {r} h =
    let fits : r ≤ length after = omega (arith, h.ends, ap length h.holds, length-append text (drop (length text) out)) in
    (fits, sym (length-take-le r after fits))
