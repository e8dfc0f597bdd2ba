-- Spans: how one grows with what is set, and that a sweep outside of it changes nothing. Assumes nothing.
use Prim.Native.Nat.{ℕ, zero, suc, ◌+◌, ◌≤◌, ◌<◌}
use native.Mathlib.Omega.{arith}
use mathlib.Core.Path.{◌≡◌, refl, sym, ap, ◌∙◌}
use mathlib.Core.Bool.{Bool, true, false, false≢true}
use mathlib.Core.List.{List, [], ◌∷◌}
use lib.Dec.{eqb}
use lib.ListN.{length, drop, get_or, set, replicate}
use Rattle.std.specs.Prelude.{min, max}
use Rattle.std.proofs.lemmas.Bool.{eqb-true, eqb-false}
use Rattle.reference.specs.Control.{when◌then◌else◌}
use Rattle.cautions.specs.Forms.{reach, sweep}
use Rattle.flow.specs.declared.reaching.Span.{Span}
use Rattle.flow.specs.Spans.{Within, widened}

-- ---- what is set

set_back : (s : List Bool) (k j : ℕ) → get_or (set s k true) j false ≡ true → (j ≡ k → ⊥) → get_or s j false ≡ true
set_back [] k j e n = e
set_back (x ∷ xs) zero zero e n = absurd (n refl)
set_back (x ∷ xs) zero (suc j) e n = e
set_back (x ∷ xs) (suc k) zero e n = e
set_back (x ∷ xs) (suc k) (suc j) e n = set_back xs k j e (λ q. n (ap suc q))

set_inside : (s : List Bool) (j : ℕ) → get_or s j false ≡ true → j < length s
set_inside [] j e = absurd (false≢true e)
set_inside (x ∷ xs) zero e = omega arith
set_inside (x ∷ xs) (suc j) e = let i = set_inside xs j e in omega (arith, i)

none_set : (n j : ℕ) → get_or (replicate n false) j false ≡ false
none_set zero j = refl
none_set (suc n) zero = refl
none_set (suc n) (suc j) = none_set n j

-- ---- spans

pub within_as : (span : Span) {s t : List Bool} → s ≡ t → Within span s → Within span t
within_as span e w j q = w j (ap (λ (l : List Bool). get_or l j false) e ∙ q)

within_set : (span : Span) (k : ℕ) (s : List Bool) → Within span s → Within (widened span k) (set s k true)
within_set span k s w j e = go (eqb j k) refl
  where
    go : (b : Bool) → eqb j k ≡ b → (min span.first k ≤ j) × (j ≤ max span.last k)
    go true q = let p = eqb-true j k q in (omega (arith, p), omega (arith, p))
    go false q = let h = w j (set_back s k j e (eqb-false j k q)) in (omega (arith, h.0), omega (arith, h.1))

pub set_in : (span : Span) (k : ℕ) (s : List Bool) {wide : Span} → wide ≡ widened span k → Within span s → Within wide (set s k true)
set_in span k s e w = rw e (within_set span k s w)

pub within_all : (n : ℕ) (s : List Bool) → length s ≡ suc n → Within (record { first = 0; last = n }) s
within_all n s h j e = let i = set_inside s j e in (omega arith, omega (arith, i, h))

pub within_none : (first last n : ℕ) → Within (record { first = first; last = last }) (replicate n false)
within_none first last n j e = absurd (false≢true (sym (none_set n j) ∙ e))

unset : (span : Span) (s : List Bool) → Within span s → (j : ℕ) → (span.first ≤ j → j ≤ span.last → ⊥) → get_or s j false ≡ false
unset span s w j n = go (get_or s j false) refl
  where
    go : (b : Bool) → get_or s j false ≡ b → get_or s j false ≡ false
    go true e = absurd (n (w j e).0 (w j e).1)
    go false e = e

-- ---- a sweep

skip : (m k : ℕ) (on : List (List ℕ)) (s : List Bool) → ((j : ℕ) → k ≤ j → j < k + m → get_or s j false ≡ false)
    → sweep (k + m) (drop m on) s ≡ sweep k on s
unfolding sweep when◌then◌else◌
skip zero k on s h = let e : k + 0 ≡ k = omega arith in rw e refl
skip (suc m) k [] s h = refl
skip (suc m) k (ks ∷ on) s h =
    let z : get_or s k false ≡ false = h k (omega arith) (omega arith) in
    let e : k + suc m ≡ suc k + m = omega arith in
    rw (z, e) (skip m (suc k) on s (λ j a b. h j (omega (arith, a)) (omega (arith, b))))

stay : (k : ℕ) (on : List (List ℕ)) (s : List Bool) → ((j : ℕ) → k ≤ j → get_or s j false ≡ false) → sweep k on s ≡ s
unfolding sweep when◌then◌else◌
stay k [] s h = refl
stay k (ks ∷ on) s h = let z : get_or s k false ≡ false = h k (omega arith) in rw z (stay (suc k) on s (λ j a. h j (omega (arith, a))))

-- in front of the span
pub sweep_front : (span : Span) (on : List (List ℕ)) (s : List Bool) → Within span s → sweep span.first (drop span.first on) s ≡ sweep 0 on s
sweep_front span on s w =
    let e : 0 + span.first ≡ span.first = omega arith in
    rw e at (skip span.first 0 on s (λ j a b. unset span s w j (λ f l. omega (arith, b, f))))

-- behind the span
pub sweep_back : (span : Span) (k : ℕ) (on : List (List ℕ)) (s : List Bool) {r : List Bool} → Within span s → span.last < k
    → sweep k (drop k on) s ≡ r → s ≡ r
sweep_back span k on s w h v = sym (stay k (drop k on) s (λ j a. unset span s w j (λ f l. omega (arith, h, a, l)))) ∙ v
