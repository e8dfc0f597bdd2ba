-- Marks in tables: two numbers joined are the marks joined (`joined-marks`); and where the origins rise, the line at place j is changed by changing the
-- table at its origin (`changed_at`), and removed by removing its origin (`rising-remove`), the table staying as it is. So a removal moves no mark.
-- Assumes nothing.
use Prim.Native.Nat.{ℕ, zero, suc, ◌≤◌, ◌<◌, min, max}
use native.Mathlib.Omega.{arith}
use mathlib.Core.Path.{◌≡◌, refl, ap, ◌∙◌}
use mathlib.Core.Logic.{⊎_elim, inl, inr}
use mathlib.Core.List.{List, [], ◌∷◌, map}
use mathlib.Core.Option.{none, some}
use lib.ListN.{length, get_or}
use borrow.Author.Tests.{le-leb, lt-leb}
use Rattle.reference.specs.Lists.{remove, modify}
use Rattle.reference.specs.Spans.{hull}
use Rattle.laws.proofs.Scans.{if-true, if-false}
use Rattle.joining.specs.Carried.{TOP, Pair, marks_of, Kept, joined, Rising}

-- ---- two numbers

pub some_marks : (p : Pair) → p.0 ≤ p.1 → marks_of p ≡ some (record { lowest = p.0; highest = p.1 })
unfolding marks_of
some_marks p h = if-true _ _ (le-leb p.0 p.1 h)

pub no_marks : (p : Pair) → p.1 < p.0 → marks_of p ≡ none
unfolding marks_of
no_marks p h = if-false _ _ (lt-leb p.0 p.1 h)

-- TWO PAIRS JOINED ARE THEIR MARKS JOINED
pub joined-marks : (p q : Pair) → Kept p → Kept q → marks_of (joined p q) ≡ hull (marks_of p) (marks_of q)
unfolding hull
joined-marks p q k l =
    ⊎_elim
    (λ (a : p.0 ≤ p.1).
    ⊎_elim
    (λ (b : q.0 ≤ q.1). rw (some_marks p a, some_marks q b) (some_marks (joined p q) (omega arith)))
    (λ (b : (q.0 ≡ TOP) × (q.1 ≡ 0)).
    (let low : min p.0 q.0 ≡ p.0 = omega (arith, b.0, k.in_64_bits) in
    let high : max p.1 q.1 ≡ p.1 = omega (arith, b.1) in
    rw (some_marks p a, no_marks q (omega (arith, b.0, b.1))) (some_marks (joined p q) (omega arith) ∙ λ i. some (record { lowest = low i; highest = high i }))))
    l.some_or_none)
    (λ (a : (p.0 ≡ TOP) × (p.1 ≡ 0)).
    (let low : min p.0 q.0 ≡ q.0 = omega (arith, a.0, l.in_64_bits) in
    let high : max p.1 q.1 ≡ q.1 = omega (arith, a.1) in
    rw (no_marks p (omega (arith, a.0, a.1))) (ap marks_of (λ i. (low i, high i)))))
    k.some_or_none

-- and are kept like them
pub kept-joined : (p q : Pair) → Kept p → Kept q → Kept (joined p q)
kept-joined p q k l =
    record {
      in_64_bits = (omega (arith, k.in_64_bits), omega (arith, k.in_64_bits, l.in_64_bits));
      some_or_none =
          ⊎_elim
          (λ (a : p.0 ≤ p.1). inl (omega arith))
          (λ (a : (p.0 ≡ TOP) × (p.1 ≡ 0)).
          ⊎_elim
          (λ (b : q.0 ≤ q.1). inl (omega arith))
          (λ (b : (q.0 ≡ TOP) × (q.1 ≡ 0)). inr (omega (arith, a.0, b.0), omega (arith, a.1, b.1)))
          l.some_or_none)
          k.some_or_none;
    }

-- ---- by the number of the input line

rising_at : (k : ℕ) (os : List ℕ) (j : ℕ) → Rising k os → j < length os → k ≤ get_or os j 0
rising_at k [] j r h = absurd (omega arith)
rising_at k (o ∷ os) zero r h = r.0
rising_at k (o ∷ os) (suc j) r h = omega (arith, r.0, rising_at (suc o) os j r.1 (omega arith))

-- Two tables, `old` and `new`, that are the same but at o.
module _ {A : Type 0} (old new : ℕ → A) (o : ℕ) (elsewhere : (p : ℕ) → (p ≡ o → ⊥) → new p ≡ old p) where
  untouched : (k : ℕ) (os : List ℕ) → o < k → Rising k os → map new os ≡ map old os
  untouched k [] h r = refl
  untouched k (p ∷ os) h r =
      let below : k ≤ p = r.0 in
      λ i. elsewhere p (λ e. omega arith) i ∷ untouched (suc p) os (omega arith) r.1 i

  -- THE LINE AT A PLACE IS CHANGED BY CHANGING THE TABLE AT ITS ORIGIN
  pub changed_at : (f : A → A) (k : ℕ) (os : List ℕ) (j : ℕ) → Rising k os → j < length os → get_or os j 0 ≡ o → new o ≡ f (old o)
      → map new os ≡ modify j f (map old os)
  changed_at f k [] j r h e here = absurd (omega arith)
  changed_at f k (p ∷ os) zero r h e here = rw e (λ i. here i ∷ untouched (suc p) os (omega (arith, e)) r.1 i)
  changed_at f k (p ∷ os) (suc j) r h e here =
      let above : suc p ≤ get_or os j 0 = rising_at (suc p) os j r.1 (omega arith) in
      λ i. elsewhere p (λ z. omega (arith, e, z)) i ∷ changed_at f (suc p) os j r.1 (omega arith) e here i

-- A LINE IS REMOVED BY REMOVING ITS ORIGIN, and the origins still rise
pub rising-remove : (k i : ℕ) (os : List ℕ) → Rising k os → Rising k (remove i os)
rising-remove k i [] r = tt
rising-remove k zero (o ∷ os) r = weaker k (suc o) os (omega (arith, r.0)) r.1
  where
    weaker : (k m : ℕ) (os : List ℕ) → k ≤ m → Rising m os → Rising k os
    weaker k m [] h r = tt
    weaker k m (o ∷ os) h r = (omega (arith, r.0), r.1)
rising-remove k (suc i) (o ∷ os) r = (r.0, rising-remove (suc o) i os r.1)
