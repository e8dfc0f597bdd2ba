-- The answer for a formula, from the solution of m · x + c = wanted: `solution_is`; and what the answer says of the start values. Assumes
-- nothing.
use Prim.Native.Nat.{ℕ, ◌+◌, ◌*◌, ◌%◌, ◌^◌, ◌<◌}
use mathlib.Core.Path.{◌≡◌, sym, ap, ◌∙◌}
use mathlib.Core.Bool.{true, false}
use mathlib.Core.List.{List}
use mathlib.Core.Option.{some}
use borrow.Author.Tests.{eq-eqb, ne_eqb}
use Rattle.reference.specs.Control.{let_some◌else◌then◌}
use Rattle.reference.specs.Text.{Text}
use Rattle.reference.specs.Listing.{Listing}
use Rattle.reference.specs.Questions.{Answer, Refused, Passed}
use Rattle.reference.specs.Straight.{returned}
use Rattle.reference.proofs.Cases.{by-some, true-false, same_number}
use Rattle.reference.proofs.Reading.{refused_passed, passed_inj}
use Rattle.solving.specs.Solutions.{Smallest, Answers}
use Rattle.solving.proofs.Solving.{answers_same}
use Rattle.start.specs.Start.{Entry, start_values, gives, solution}
use Rattle.start.specs.Pairs.{returned_pair}
use Rattle.start.specs.Solved.{answered}
use Rattle.start.proofs.Formula.{formula_is}
use Rattle.start.proofs.Least.{nothing-below, least_is, nothing-found, least-found}
use Rattle.std.specs.Prelude as std
use Rattle.std.specs.Prelude.{Some, None}

module _ (lines : Listing) (chosen : Text) (es : List Entry) (wanted : ℕ) where
  abbrev Works : ℕ → Type 0
  Works v = returned (start_values chosen es v) lines ≡ wanted

  gives-true : (v : ℕ) → Works v → gives lines chosen es wanted v ≡ true
  unfolding gives
  gives-true v e = eq-eqb (returned (start_values chosen es v) lines) wanted e

  gives-false : (v : ℕ) → (Works v → ⊥) → gives lines chosen es wanted v ≡ false
  unfolding gives
  gives-false v f = ne_eqb (returned (start_values chosen es v) lines) wanted f

  given : (v : ℕ) → gives lines chosen es wanted v ≡ true → Works v
  unfolding gives
  given v e = same_number e

  -- ---- how the answer comes

  pub solution_by : (s : std.Option ℕ) → Answers Works s → solution lines chosen es wanted ≡ answered s
  unfolding solution let_some◌else◌then◌
  solution_by (Some x) h =
      rw (least_is (gives lines chosen es wanted) (2 ^ 64) x h.0 (gives-true x h.1.does) (λ u l. gives-false u (h.1.least u l)))
  solution_by None h = rw (nothing-below (gives lines chosen es wanted) (2 ^ 64) (λ u l. gives-false u (h u l)))

  -- ---- what it says

  pub passed_smallest : (v : ℕ) → solution lines chosen es wanted ≡ Passed v → (v < 2 ^ 64) × Smallest Works v
  unfolding solution
  passed_smallest v =
      by-some (λ (r : Answer ℕ). r ≡ Passed v → (v < 2 ^ 64) × Smallest Works v)
      (λ no e. absurd (refused_passed e))
      (λ u f e.
      (let h = least-found (gives lines chosen es wanted) (2 ^ 64) v (f ∙ ap some (passed_inj e)) in
      (h.0, record { does = given v h.1; least = λ y l w. true-false (gives-true y w) (h.2 y l) })))

  pub refused_none : (number place : ℕ) → solution lines chosen es wanted ≡ Refused number place → (v : ℕ) → v < 2 ^ 64 → Works v → ⊥
  unfolding solution
  refused_none number place =
      by-some (λ (r : Answer ℕ). r ≡ Refused number place → (v : ℕ) → v < 2 ^ 64 → Works v → ⊥)
      (λ no e v l w. true-false (gives-true v w) (nothing-found (gives lines chosen es wanted) (2 ^ 64) no v l))
      (λ u f e. absurd (refused_passed (sym e)))

-- THE SOLUTION OF m · x + c = wanted IS THE ANSWER FOR THE FORMULA
pub solution_is : (chosen : Text) (es : List Entry) (lines : Listing) (m c wanted : ℕ) → returned_pair chosen es lines ≡ some (m, c)
    → (s : std.Option ℕ) → Answers (λ x. (m * x + c) % 2 ^ 64 ≡ wanted) s → solution lines chosen es wanted ≡ answered s
solution_is chosen es lines m c wanted e s h =
    solution_by lines chosen es wanted s
    (answers_same (λ x. (m * x + c) % 2 ^ 64 ≡ wanted) (λ x. returned (start_values chosen es x) lines ≡ wanted)
    (λ x p. formula_is chosen es lines m c e x ∙ p) (λ x p. sym (formula_is chosen es lines m c e x) ∙ p) s h)
