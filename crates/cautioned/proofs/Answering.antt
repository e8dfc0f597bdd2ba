-- What each answer of the call says of the whole call. Assumes nothing.
use Prim.Native.Nat.{ℕ, ◌*◌, ◌<◌}
use native.Mathlib.Omega.{arith}
use mathlib.Core.Path.{◌≡◌, refl, sym, ap, subst, ◌∙◌}
use mathlib.Core.Bool.{Bool}
use mathlib.Core.List.{List}
use lib.ListN.{length, drop, get_or}
use borrow.Author.Tests.{leb-true}
use Rattle.reference.specs.Control.{when◌then◌else◌, let_some◌else◌then◌}
use Rattle.reference.specs.Options.{option_of}
use Rattle.reference.specs.Listing.{Listing}
use Rattle.reference.specs.Rules.{Rules}
use Rattle.reference.specs.Run.{finished}
use Rattle.reference.specs.Questions.{Answer, Refused, Passed, let_passed◌then◌, read}
use Rattle.reference.proofs.Cases.{both}
use Rattle.reference.proofs.Reading.{Yes, refused_passed, passed_inj, ask-yes, let_refused, let_is}
use Rattle.tape.specs.Questions.{first_no, AcceptedTape}
use Rattle.tape.proofs.questions.Asking.{none_no, ask_number}
use Rattle.answers.specs.declared.Reason.{Reason}
use Rattle.answers.specs.declared.Refusal.{Refusal}
use Rattle.answers.specs.Refusals.{number_of, refusing}
use Rattle.answers.specs.Answers.{measured}
use Rattle.answers.proofs.Numbers.{numbered}
use Rattle.std.specs.Prelude as std
use Rattle.std.specs.Prelude.{Some, None, Ok, Err, Result}
use Rattle.std.specs.Result.{MatchResult, IsErrAnd}
use Rattle.clean.specs.Replies.{outside}
use Rattle.cautions.specs.Cautions.{finished_cautions, caution_bytes}
use Rattle.cautions.proofs.Carried.{kept_as}
use Rattle.cautions.proofs.Lost.{nothing_lost, quiet}
use Rattle.cautions.proofs.Ordered.{in_order}
use Rattle.cautions.proofs.Unwarned.{unwarned}
use Rattle.clean.specs.Asking.{before_the_tape}
use Rattle.cautioned.specs.Replies.{OUTPUT, cautions_reply, RefusedAlike, Leaves, set_at, Tells}
use Rattle.cautioned.specs.Telling.{Cautionable, Finishes}
use Rattle.clean.specs.declared.tabled.Tables.{Tables}
use Rattle.clean.specs.Tabled.{Tabled}
use Rattle.tape.specs.declared.questions.Totals.{Totals}
use Rattle.cautioned.proofs.Bytes.{read_set}
use Rattle.cautioned.proofs.Alike.{refused-alike}

-- what is told of an accepted tape, by what is told of a call that is not refused
tells_by : (rules : Rules) (input : Listing) {r : Answer ℕ} {out' : List ℕ}
    → ((n : ℕ) → r ≡ Passed n → n ≡ 2 * length (finished rules input))
    → ((n : ℕ) → r ≡ Passed n → (q : ℕ) → q < length (finished rules input) → set_at out' q ≡ get_or (finished_cautions rules input) q 0)
    → Tells rules input r out'
tells_by rules input a e =
    record {
      answered = a;
      each = e;
      kept = kept_as rules input;
      nothing_lost = nothing_lost rules input;
      quiet = quiet rules input;
      in_order = in_order rules input;
      unwarned = unwarned rules input;
    }

module _ (rules : Rules) (tape work_a work_b out : List ℕ) where
  abbrev answer : Answer (List ℕ)
  answer = cautions_reply rules tape (length work_a) (length work_b) (length out)

  -- what the call promises of its answer
  pub record Promise (work-a' work-b' out' : List ℕ) (r : Answer ℕ) : Type 0 where
    pub result_value : r ≡ measured answer
    pub alike : RefusedAlike rules tape (length work_a) (length work_b) (length out)
    pub lent : Leaves answer work_a work_b out work-a' work-b' out'
    pub tells : (input : Listing) → read tape ≡ Passed input → Tells rules input r out'

  refused : {n p : ℕ} → answer ≡ Refused n p → Promise work_a work_b out (Refused n p)
  refused e =
      let leaves : Leaves (Refused _ _) work_a work_b out work_a work_b out = record { output_is = refl; work_a_is = refl; work_b_is = refl } in
      record {
        result_value = sym (ap measured e);
        alike = refused-alike rules tape (length work_a) (length work_b) (length out);
        lent = rw e leaves;
        tells = λ input reads. tells_by rules input (λ n k. absurd (refused_passed k)) (λ n k. absurd (refused_passed k));
      }

  finished-told : (lines : Listing) → read tape ≡ Passed lines → answer ≡ Passed (caution_bytes (finished_cautions rules lines))
      → {work-a' work-b' out' : List ℕ} {n : ℕ} → Finishes (caution_bytes (finished_cautions rules lines)) work_a work_b out work-a' work-b' out' n
      → Promise work-a' work-b' out' (Passed n)
  finished-told lines reads e {out' = out'} {n = n} f =
      record {
        result_value = ap Passed f.length_is ∙ sym (ap measured e);
        alike = refused-alike rules tape (length work_a) (length work_b) (length out);
        lent = rw e f.leaves;
        tells = λ input again. subst (λ (i : Listing). Tells rules i (Passed n) out') (passed_inj (sym reads ∙ again)) all;
      }
    where
      sets : List ℕ
      sets = finished_cautions rules lines

      all : Tells rules lines (Passed n) out'
      all =
          let k = kept_as rules lines in
          tells_by rules lines
          (λ m same. sym (passed_inj same) ∙ f.length_is ∙ k.written)
          (λ m same q h. ap (λ (o : List ℕ). set_at o q) f.leaves.output_is ∙ read_set sets (drop (length (caution_bytes sets)) out) k.small q (omega (arith, k.each, h)))

  -- ---- the questions before the tape

  abbrev asked : List (ℕ × Bool)
  asked = before_the_tape rules (length work_a) (length work_b) (length out) OUTPUT

  -- question 1, 9 or 2 refuses the call; of what `map_err` and `?` make of its answer
  pub refused_early : {A : Type 0} (o : Result A Reason) → refusing o ≡ first_no asked → {m : Result A Refusal}
      → MatchResult o (λ a. m ≡ Ok a) (λ r. IsErrAnd m (λ x. x ≡ record { reason = r; place = 0 })) → (x : Refusal) → m ≡ Err x
      → Promise work_a work_b out (Refused (number_of x.reason) x.place)
  unfolding cautions_reply
  refused_early (Ok a) e h x is = cc
  refused_early (Err r) e h x is =
      let same : x ≡ record { reason = r; place = 0 } = rw is at h in
      rw same (refused (ask_number (λ number. 0) asked _ (numbered r) (sym e)))

  module _ {A : Type 0} {o : Result A Reason} (e : refusing o ≡ first_no asked) {a : A} (z : o ≡ Ok a) where
    open_door : Yes asked
    open_door = none_no _ (omega arith, (omega arith, (omega arith, tt))) (sym e ∙ ap refusing z)

    answer_is : answer ≡ (let_passed (read tape) then λ lines.
        let_some (outside rules lines) else Passed (caution_bytes (finished_cautions rules lines)) then λ n. Refused 14 n)
    unfolding cautions_reply
    answer_is = ask-yes (λ number. 0) asked _ open_door

    -- a later question refuses the tape
    pub refused_on_tape : {n p : ℕ} → read tape ≡ Refused n p → Promise work_a work_b out (Refused n p)
    refused_on_tape is = refused (answer_is ∙ let_refused _ is)

    pub cautionable : {own : Tables} {t : Totals} → Tabled tape own t → Cautionable tape own t work_a work_b out
    cautionable l =
        let room = both open_door.1.1.0 in
        record {
          loaded = l;
          room_a = leb-true _ _ room.0;
          room_b = leb-true _ _ (both room.1).0;
          room = leb-true _ _ (both room.1).1;
        }

    module _ (t : AcceptedTape tape) (r : std.Option ℕ) (p : (input : Listing) → read tape ≡ Passed input → option_of r ≡ outside rules input) where
      in_profile : answer ≡ (let_some (option_of r) else Passed (caution_bytes (finished_cautions rules t.listing)) then λ n. Refused 14 n)
      in_profile = answer_is ∙ let_is _ t.reads ∙ rw (p t.listing t.reads) refl

      -- the profile does
      pub refused_now : (line : ℕ) → r ≡ Some line → Promise work_a work_b out (Refused 14 line)
      unfolding let_some◌else◌then◌
      refused_now line is = refused (in_profile ∙ rw is refl)

      -- none does
      pub finished-now : r ≡ None → {work-a' work-b' out' : List ℕ} {n : ℕ}
          → ((input : Listing) → read tape ≡ Passed input → Finishes (caution_bytes (finished_cautions rules input)) work_a work_b out work-a' work-b' out' n)
          → Promise work-a' work-b' out' (Passed n)
      unfolding let_some◌else◌then◌
      finished-now is f = finished-told t.listing t.reads (in_profile ∙ rw is refl) (f t.listing t.reads)
