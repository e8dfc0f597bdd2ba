-- The smallest number below n that passes a test: what is found, and how it is found. By induction over n, which is never a numeral here:
-- 2^64 is not counted up to. Assumes nothing.
use Prim.Native.Nat.{ℕ, zero, suc, ◌<◌}
use native.Mathlib.Omega.{arith}
use native.Mathlib.Decide.{dec_lt}
use mathlib.Core.Path.{◌≡◌, refl, sym, ap, ◌∙◌, subst}
use mathlib.Core.Logic.{by_cases}
use mathlib.Core.Bool.{Bool, true, false}
use mathlib.Core.Option.{Option, none, some}
use Rattle.reference.specs.Control.{when◌then◌else◌, let_some◌else◌then◌}
use Rattle.reference.proofs.Cases.{fails, if_some, some_inj, none-some}
use Rattle.laws.proofs.Scans.{if-true, if-false}
use Rattle.start.specs.Start.{least_below}

-- v passes the test, is below n, and nothing smaller passes
abbrev pub IsLeast : (ℕ → Bool) → ℕ → ℕ → Type 0
IsLeast works n v = (v < n) × (works v ≡ true) × ((u : ℕ) → u < v → works u ≡ false)

module _ (works : ℕ → Bool) where
  -- ---- how it is found

  pub nothing-below : (n : ℕ) → ((u : ℕ) → u < n → works u ≡ false) → least_below n works ≡ none
  unfolding least_below let_some◌else◌then◌
  nothing-below zero f = refl
  nothing-below (suc n) f = rw (nothing-below n (λ u l. f u (omega arith))) (if-false _ _ (f n (omega arith)))

  pub least_is : (n v : ℕ) → v < n → works v ≡ true → ((u : ℕ) → u < v → works u ≡ false) → least_below n works ≡ some v
  unfolding least_below let_some◌else◌then◌
  least_is zero v l w f = absurd (omega arith)
  least_is (suc n) v l w f =
      by_cases (dec_lt v n)
      (λ h. rw (least_is n v h w f))
      (λ h.
      (let e : v ≡ n = omega arith in
      rw (nothing-below n (λ u k. f u (omega arith))) (if-true _ _ (subst (λ (k : ℕ). works k ≡ true) e w) ∙ ap some (sym e))))

  -- ---- what is found

  -- what is found with one number more
  abbrev next : ℕ → Option ℕ → Option ℕ
  next n o = let_some o else (when works n then some n else none) then λ v. some v

  pub nothing-found : (n : ℕ) → least_below n works ≡ none → (u : ℕ) → u < n → works u ≡ false
  unfolding least_below let_some◌else◌then◌
  nothing-found zero e u l = absurd (omega arith)
  nothing-found (suc n) e u l = go (least_below n works) refl e (nothing-found n)
    where
      go : (o : Option ℕ) → least_below n works ≡ o → next n o ≡ none → (least_below n works ≡ none → (u : ℕ) → u < n → works u ≡ false)
          → works u ≡ false
      go (some v) p e before = absurd (none-some (sym e))
      go none p e before =
          by_cases (dec_lt u n) (before p u)
          (λ h. (let last : u ≡ n = omega arith in ap works last ∙ fails (λ t. none-some (sym e ∙ if-true _ _ t))))

  pub least-found : (n v : ℕ) → least_below n works ≡ some v → IsLeast works n v
  unfolding least_below let_some◌else◌then◌
  least-found zero v e = absurd (none-some e)
  least-found (suc n) v e = go (least_below n works) refl e (least-found n v)
    where
      go : (o : Option ℕ) → least_below n works ≡ o → next n o ≡ some v → (least_below n works ≡ some v → IsLeast works n v)
          → IsLeast works (suc n) v
      go (some w) p e before = let b = before (p ∙ e) in (omega (arith, b.0), b.1, b.2)
      go none p e before =
          let h = if_some e in
          let last : n ≡ v = some_inj h.1 in
          (omega arith, sym (ap works last) ∙ h.0, λ u l. nothing-found n p u (omega arith))
