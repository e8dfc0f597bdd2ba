-- Searches of a list: what `position` and `any` say of its elements, and a test of all of them. Assumes nothing.
use Prim.Native.Nat.{ℕ, zero, suc, ◌<◌}
use native.Mathlib.Omega.{arith}
use mathlib.Core.Path.{◌≡◌, refl, sym}
use mathlib.Core.Bool.{Bool, true, false}
use mathlib.Core.List.{List, [], ◌∷◌}
use mathlib.Core.Option.{Option, none, some}
use native.Mathlib.Decide.{ℕ_discrete}
use mathlib.Core.Logic.{by_cases}
use lib.ListN.{length, get_or}
use Rattle.reference.specs.Control.{◌and◌, ◌or◌, when◌then◌else◌, let_some◌else◌then◌}
use Rattle.reference.specs.Lists.{any, position}
use Rattle.reference.proofs.Cases.{both, neither, some_inj, none-some}

module _ {ℓ} {A : Type ℓ} (p : A → Bool) where
  -- `position` by its first element
  abbrev next : Bool → Option ℕ → Option ℕ
  next b o = when b then some 0 else (let_some o else none then λ i. some (suc i))

  pub position_none : (l : List A) → position p l ≡ none → any p l ≡ false
  unfolding when◌then◌else◌ let_some◌else◌then◌ ◌or◌
  position_none [] e = refl
  position_none (x ∷ xs) e = step (p x) (position p xs) (position_none xs) e
    where
      step : (b : Bool) (o : Option ℕ) → (o ≡ none → any p xs ≡ false) → next b o ≡ none → (b or any p xs) ≡ false
      step true o f e = absurd (none-some (sym e))
      step false none f e = f refl
      step false (some i) f e = absurd (none-some (sym e))

  pub position_at : (l : List A) (d : A) {k : ℕ} → position p l ≡ some k → (k < length l) × (p (get_or l k d) ≡ true)
  unfolding when◌then◌else◌ let_some◌else◌then◌
  position_at [] d e = absurd (none-some e)
  position_at (x ∷ xs) d {k} e = step (p x) refl (position p xs) (λ i f. position_at xs d f) e
    where
      step : (b : Bool) → p x ≡ b → (o : Option ℕ) → ((i : ℕ) → o ≡ some i → (i < length xs) × (p (get_or xs i d) ≡ true))
          → next b o ≡ some k → (k < length (x ∷ xs)) × (p (get_or (x ∷ xs) k d) ≡ true)
      step true g o f e = rw (sym (some_inj e)) (omega arith, g)
      step false g none f e = absurd (none-some e)
      step false g (some i) f e = rw (sym (some_inj e)) (let h = f i refl in (omega arith, h.1))

  pub any_at : (l : List A) (d : A) (k : ℕ) → k < length l → p (get_or l k d) ≡ true → any p l ≡ true
  unfolding ◌or◌
  any_at [] d k h e = absurd (omega arith)
  any_at (x ∷ xs) d zero h e = rw e
  any_at (x ∷ xs) d (suc k) h e = rw (any_at xs d k (omega arith) e) (last (p x))
    where
      last : (b : Bool) → (b or true) ≡ true
      last true = refl
      last false = refl

  pub none_at : (l : List A) (d : A) (k : ℕ) → any p l ≡ false → k < length l → p (get_or l k d) ≡ false
  none_at [] d k e h = absurd (omega arith)
  none_at (x ∷ xs) d zero e h = (neither e).0
  none_at (x ∷ xs) d (suc k) e h = none_at xs d k (neither e).1 (omega arith)

  -- a test of every element
  abbrev pub all : List A → Bool
  all [] = true
  all (x ∷ xs) = let r = all xs in p x and r

-- two tests that agree on every element that passes a third
pub any-agree {ℓ} : {A : Type ℓ} (t p q : A → Bool) (l : List A) → all t l ≡ true → ((x : A) → t x ≡ true → p x ≡ q x) → any p l ≡ any q l
any-agree t p q [] e f = refl
any-agree t p q (x ∷ xs) e f = rw (f x (both e).0, any-agree t p q xs (both e).1 f)

-- a test that fails on every element that passes another
pub any_fails {ℓ} : {A : Type ℓ} (t p : A → Bool) (l : List A) → all t l ≡ true → ((x : A) → t x ≡ true → p x ≡ false) → any p l ≡ false
unfolding ◌or◌
any_fails t p [] e f = refl
any_fails t p (x ∷ xs) e f = rw (f x (both e).0, any_fails t p xs (both e).1 f)

-- ---- a test of every number below a bound, computed

unfoldable pub all-below : ℕ → (ℕ → Bool) → Bool
all-below zero p = true
all-below (suc n) p = p n and all-below n p

pub below_at : (n : ℕ) (p : ℕ → Bool) (k : ℕ) → all-below n p ≡ true → k < n → p k ≡ true
unfolding all-below
below_at zero p k e h = absurd (omega arith)
below_at (suc n) p k e h =
    by_cases (ℕ_discrete k n) (λ f. rw f (both e).0) (λ f. below_at n p k (both e).1 (omega (arith, f)))
