-- What the call's answer says of a formula and its start values (specs/Smallest.antt). Assumes nothing.
use Prim.Native.Nat.{ℕ, ◌^◌, ◌<◌}
use native.Mathlib.Omega.{arith}
use mathlib.Core.Path.{◌≡◌, refl, ap, ◌∙◌}
use mathlib.Core.Bool.{false, false≢true}
use mathlib.Core.List.{List}
use Rattle.reference.specs.Control.{◌and◌, ◌or◌, let_some◌else◌then◌}
use Rattle.reference.specs.Text.{Text}
use Rattle.reference.specs.Questions.{WORK, OUTPUT, is_convention, is_edition, has_room_by, Answer, Refused, Passed, read}
use Rattle.reference.specs.Rules.{Rules}
use Rattle.reference.specs.Reply.{reply_by}
use Rattle.reference.proofs.Cases.{by-if, by-some}
use Rattle.reference.proofs.Reading.{refused_passed, by_passed, let_is, let_refused, ask-yes}
use Rattle.reference.proofs.Refusals.{refused_number}
use Rattle.laws.proofs.Scans.{if-true}
use Rattle.solving.specs.Solutions.{Smallest}
use Rattle.start.specs.Start.{solution, ask_names, ask_formula, start_reply}
use Rattle.start.specs.Smallest.{Asked, Gives, NoneGives, StartValue}
use Rattle.start.proofs.Formula.{formula_multiplier}
use Rattle.start.proofs.Solved.{solution_by, passed_smallest, refused_none}
use Rattle.std.specs.Prelude.{Some, None}

refused_as : {number place n p : ℕ} → ◌≡◌ {A = Answer ℕ} (Refused number place) (Refused n p) → number ≡ n
refused_as e = cc

-- The tape's questions do not give 15: a cleaning would give it too, and its numbers are known.
abbrev plain : Rules
plain = record { convention = 0; settle = false; edition = 0; parts = false; profile = false }

not-the-tape : (tape : List ℕ) (place : ℕ) → read tape ≡ Refused 15 place → ⊥
unfolding reply_by is_convention is_edition has_room_by ◌and◌ ◌or◌
not-the-tape tape place e =
    false≢true (refused_number plain tape WORK WORK OUTPUT (ask-yes _ _ _ (refl, (refl, (refl, tt))) ∙ let_refused _ e))

module _ (tape : List ℕ) (chosen : Text) (list : List ℕ) (wanted : ℕ) where
  -- the answer, by where it comes from: the tape, the profile, the names, the formula
  by_question : (P : Answer ℕ → Type 0)
      → ((number place : ℕ) → read tape ≡ Refused number place → P (Refused number place))
      → ((n : ℕ) → P (Refused 14 n))
      → P (Refused 16 0)
      → ((q : Asked tape chosen list) → P (solution q.lines chosen q.known wanted))
      → P (start_reply tape chosen list wanted)
  unfolding start_reply ask_formula ask_names
  by_question P of-tape of-profile of-names of-formula =
      by_passed P of-tape
      (λ lines r.
      by-some P
      (λ fits.
      by-if P
      (λ is.
      by-some P (λ cut. of-names)
      (λ es known.
      of-formula (record { lines = lines; known = es; tape_holds = r; in_profile = fits; chosen_register = is; list_holds = known })))
      (λ no. of-names))
      (λ n broken. of-profile n))

  -- where the questions before it are passed, it is the formula's
  asked_reply : (q : Asked tape chosen list) → start_reply tape chosen list wanted ≡ solution q.lines chosen q.known wanted
  unfolding start_reply ask_formula ask_names let_some◌else◌then◌
  asked_reply q =
      let_is _ q.tape_holds ∙ rw q.in_profile (if-true _ _ q.chosen_register ∙ rw q.list_holds)

  -- WHAT THE ANSWER SAYS
  pub start_value : StartValue tape chosen list wanted
  start_value =
      record {
        smallest = λ v.
            by_question (λ (r : Answer ℕ). r ≡ Passed v → (q : Asked tape chosen list) × (v < 2 ^ 64) × Smallest (Gives q wanted) v)
            (λ number place r e. absurd (refused_passed e))
            (λ n e. absurd (refused_passed e))
            (λ e. absurd (refused_passed e))
            (λ q e. (let h = passed_smallest q.lines chosen q.known wanted v e in (q, h.0, h.1)));
        tells = λ q v l h. asked_reply q ∙ solution_by q.lines chosen q.known wanted (Some v) (l, h);
        none_works = λ place.
            by_question (λ (r : Answer ℕ). r ≡ Refused 15 place → (q : Asked tape chosen list) × NoneGives q wanted)
            (λ number p r e. absurd (not-the-tape tape p (r ∙ ap (λ (n : ℕ). Refused n p) (refused_as e))))
            (λ n e. absurd (omega (arith, refused_as e)))
            (λ e. absurd (omega (arith, refused_as e)))
            (λ q e. (q, refused_none q.lines chosen q.known wanted 15 place e));
        refuses = λ q h. asked_reply q ∙ solution_by q.lines chosen q.known wanted None h;
        multiplier = λ lines r fits. formula_multiplier chosen lines fits;
      }
