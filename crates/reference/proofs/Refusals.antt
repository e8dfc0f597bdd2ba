-- A refusal's number is one of those that a call can give, `refused_number`. Assumes nothing.
use Prim.Native.Nat.{ℕ, zero, suc}
use mathlib.Core.Path.{◌≡◌, refl, sym}
use mathlib.Core.Bool.{Bool, true}
use mathlib.Core.List.{List, [], ◌∷◌}
use lib.Dec.{eqb}
use Rattle.reference.specs.Control.{◌or◌}
use Rattle.reference.specs.Lists.{any}
use Rattle.reference.specs.Listing.{Listing}
use Rattle.reference.specs.Rules.{Rules}
use Rattle.reference.specs.Questions.{numbers, Totals, Answer, Refused, ask, read_command, read_from, read_by, read_command_by, read_from_by}
use Rattle.reference.specs.Reply.{Reply, ask_profile, reply_by, reply}
use Rattle.reference.proofs.Cases.{by-if, by-some}
use Rattle.reference.proofs.Limits.{All}
use Rattle.reference.proofs.Reading.{refused_passed, by_passed}

-- the number stands in the list
abbrev pub Given : ℕ → Type 0
Given n = any (eqb n) numbers ≡ true

module _ {A : Type 0} {n p : ℕ} where
  same_number : {m q : ℕ} → Given m → ◌≡◌ {A = Answer A} (Refused m q) (Refused n p) → Given n
  same_number {m} h e = let s : m ≡ n = cc in rw s at h

  asked_number : (place : ℕ → ℕ) (qs : List (ℕ × Bool)) (a : Answer A) → All (λ q. Given q.0) qs → (a ≡ Refused n p → Given n)
      → ask place qs a ≡ Refused n p → Given n
  unfolding ask
  asked_number place [] a h k = k
  asked_number place (q ∷ more) a h k =
      by-if (λ (x : Answer A). x ≡ Refused n p → Given n) (λ yes. asked_number place more a h.1 k) (λ no. same_number h.0)

command_number : (tape : List ℕ) (at : ℕ) (t : Totals) {n p : ℕ} → read_command tape at t ≡ Refused n p → Given n
unfolding read_command_by ◌or◌
command_number tape at t =
    asked_number _ _ _ (refl, (refl, (refl, (refl, (refl, (refl, (refl, (refl, tt)))))))) (λ e. absurd (refused_passed (sym e)))

read_number : (fuel : ℕ) (tape : List ℕ) (at : ℕ) (t : Totals) (lines : Listing) {n p : ℕ} → read_from fuel tape at t lines ≡ Refused n p → Given n
unfolding read_from_by ◌or◌
read_number zero tape at t lines = same_number refl
read_number (suc fuel) tape at t lines {n} {p} =
    by_passed (λ (x : Answer Listing). x ≡ Refused n p → Given n)
    (λ number place u. same_number (command_number tape at t u))
    (λ a u. by-if (λ (x : Answer Listing). x ≡ Refused n p → Given n) (λ ends e. absurd (refused_passed (sym e))) (λ goes. read_number fuel tape _ _ _))

profile_number : (rules : Rules) (lines : Listing) (r : Reply) {n p : ℕ} → (r ≡ Refused n p → Given n) → ask_profile rules lines r ≡ Refused n p → Given n
unfolding ask_profile ◌or◌
profile_number rules lines r {n} {p} k =
    by-if (λ (x : Reply). x ≡ Refused n p → Given n)
    (λ on. by-some (λ (x : Reply). x ≡ Refused n p → Given n) (λ fits. k) (λ at b. same_number refl))
    (λ off. k)

-- THE NUMBER OF A REFUSED CALL IS ONE OF THE LIST
pub refused_number : (rules : Rules) (tape : List ℕ) (work_a work_b output : ℕ) {n p : ℕ} → reply rules tape work_a work_b output ≡ Refused n p
    → any (eqb n) numbers ≡ true
unfolding reply_by read_by ◌or◌
refused_number rules tape work_a work_b output {n} {p} =
    asked_number _ _ _ (refl, (refl, (refl, tt)))
    (by_passed (λ (x : Reply). x ≡ Refused n p → Given n)
    (λ number place u. same_number (read_number _ tape _ _ _ u))
    (λ lines u. profile_number rules lines _ (λ e. absurd (refused_passed (sym e)))))
