-- The first number that passes a test, and what is known of every number that was passed. Assumes nothing.
use Prim.Native.Nat.{ℕ, zero, suc, ◌+◌, ◌≤◌, ◌<◌}
use native.Mathlib.Omega.{arith}
use native.Mathlib.Decide.{dec_le}
use mathlib.Core.Path.{◌≡◌, refl, sym}
use mathlib.Core.Logic.{by_cases}
use mathlib.Core.Bool.{Bool, true, false}
use mathlib.Core.Option.{Option, none, some}
use Rattle.std.specs.Prelude as std
use Rattle.std.specs.Prelude.{Some, None}
use Rattle.std.specs.Option.{MatchOption}
use Rattle.reference.specs.Options.{option_of}
use Rattle.reference.specs.Control.{when◌then◌else◌}
use Rattle.reference.proofs.Cases.{by-if, some_inj, none-some}
use Rattle.states.specs.Store.{first}

-- the number j is the first of the k from i on
pub record Hit (p : ℕ → Bool) (k i j : ℕ) : Type 0 where
  pub passes : p j ≡ true
  pub from : i ≤ j
  pub below : j < i + k
  pub before : (l : ℕ) → i ≤ l → l < j → p l ≡ false

module _ (p : ℕ → Bool) where
  -- ---- what was found

  pub first_some : (k i : ℕ) {j : ℕ} → first k i p ≡ some j → Hit p k i j
  unfolding first
  first_some zero i = λ e. absurd (none-some e)
  first_some (suc k) i {j} =
      by-if (λ (x : Option ℕ). x ≡ some j → Hit p (suc k) i j)
      (λ yes e. (let s : i ≡ j = some_inj e in
      record { passes = rw s at yes; from = omega arith; below = omega arith; before = λ l a b. absurd (omega arith) }))
      (λ no e. (let h = first_some k (suc i) e in
      record {
        passes = h.passes;
        from = omega arith;
        below = omega arith;
        before = λ l a b. by_cases (dec_le (suc i) l) (λ c. h.before l c b) (λ c. (let s : i ≡ l = omega arith in rw s at no));
      }))

  pub first_none : (k i : ℕ) → first k i p ≡ none → (j : ℕ) → i ≤ j → j < i + k → p j ≡ false
  unfolding first
  first_none zero i = λ e j a b. absurd (omega arith)
  first_none (suc k) i =
      by-if (λ (x : Option ℕ). x ≡ none → (j : ℕ) → i ≤ j → j < i + suc k → p j ≡ false)
      (λ yes e. absurd (none-some (sym e)))
      (λ no e j a b. by_cases (dec_le (suc i) j) (λ c. first_none k (suc i) e j c (omega arith))
      (λ c. (let s : i ≡ j = omega arith in rw s at no)))

  -- ---- how it is found

  pub none_first : (k i : ℕ) → ((j : ℕ) → i ≤ j → j < i + k → p j ≡ false) → first k i p ≡ none
  unfolding first when◌then◌else◌
  none_first zero i h = refl
  none_first (suc k) i h = rw (h i (omega arith) (omega arith)) (none_first k (suc i) (λ j a b. h j (omega arith) (omega arith)))

  pub some_first : (k i j : ℕ) → Hit p k i j → first k i p ≡ some j
  unfolding first when◌then◌else◌
  some_first zero i j h = absurd (omega arith)
  some_first (suc k) i j h =
      by_cases (dec_le (suc i) j)
      (λ c.
      rw (h.before i (omega arith) (omega arith))
      (some_first k (suc i) j (record
      { passes = h.passes; from = c; below = omega arith; before = λ l a b. h.before l (omega arith) b })))
      (λ c. (let s : j ≡ i = omega arith in let y : p i ≡ true = rw s at h.passes in rw (y, s)))

-- a number that `find` answers of the n from 0 on
pub found_first : (p : ℕ → Bool) (n : ℕ) (r : std.Option ℕ)
    → MatchOption r ((k : ℕ) → 0 ≤ k → k < n → p k ≡ false) (λ i. (0 ≤ i) × (i < n) × (p i ≡ true) × ((k : ℕ) → 0 ≤ k → k < i → p k ≡ false))
    → option_of r ≡ first n 0 p
found_first p n None h = sym (none_first p n 0 (λ j a b. h j a (omega arith)))
found_first p n (Some i) h = sym (some_first p n 0 i (record { passes = h.2; from = h.0; below = omega arith; before = h.3 }))

pub first_same : (p q : ℕ → Bool) (k i : ℕ) → ((j : ℕ) → i ≤ j → j < i + k → p j ≡ q j) → first k i p ≡ first k i q
unfolding first
first_same p q zero i h = refl
first_same p q (suc k) i h = rw (h i (omega arith) (omega arith), first_same p q k (suc i) (λ j a b. h j (omega arith) (omega arith)))
