-- Marks joined: in any order, and once or more often, they make the same; and they hold every address that they are made of. Assumes nothing.
use Prim.Native.Nat.{ℕ, zero, suc, pred, ◌≤◌, ◌<◌, min, max}
use native.Mathlib.Omega.{arith}
use native.Mathlib.Nat.{le_refl}
use mathlib.Core.Path.{◌≡◌, refl, sym, ap, ◌∙◌}
use mathlib.Core.Bool.{Bool, true, false}
use mathlib.Core.List.{List, [], ◌∷◌, ◌++◌}
use mathlib.Core.Option.{none, some}
use lib.Dec.{eqb}
use lib.ListN.{length, get_or}
use borrow.Author.Tests.{eq-eqb, ne_eqb, eqb-true, eqb-false, ltb-true, ltb-false}
use Rattle.reference.specs.Control.{◌or◌, when◌then◌else◌}
use Rattle.reference.specs.Lists.{any, remove, modify}
use Rattle.reference.specs.Spans.{Marks, point, hull, span_of}
use Rattle.reference.specs.Marks.{moved, take_in}
use Rattle.reference.proofs.Cases.{by-if}
use Rattle.reference.proofs.Lines.{length-modify}
use Rattle.reference.proofs.Limits.{All}

-- ---- two marks

pub hull_none : (m : Marks) → hull m none ≡ m
unfolding hull
hull_none none = refl
hull_none (some s) = refl

pub hull_assoc : (k m n : Marks) → hull (hull k m) n ≡ hull k (hull m n)
unfolding hull
hull_assoc none m n = refl
hull_assoc (some r) none n = refl
hull_assoc (some r) (some s) none = refl
hull_assoc (some r) (some s) (some t) =
    let low : min (min r.lowest s.lowest) t.lowest ≡ min r.lowest (min s.lowest t.lowest) = omega arith in
    let high : max (max r.highest s.highest) t.highest ≡ max r.highest (max s.highest t.highest) = omega arith in
    λ i. some (record { lowest = low i; highest = high i })

pub hull_comm : (m n : Marks) → hull m n ≡ hull n m
unfolding hull
hull_comm none none = refl
hull_comm none (some t) = refl
hull_comm (some s) none = refl
hull_comm (some s) (some t) =
    let low : min s.lowest t.lowest ≡ min t.lowest s.lowest = omega arith in
    let high : max s.highest t.highest ≡ max t.highest s.highest = omega arith in
    λ i. some (record { lowest = low i; highest = high i })

pub hull_same : (m : Marks) → hull m m ≡ m
unfolding hull
hull_same none = refl
hull_same (some s) =
    let low : min s.lowest s.lowest ≡ s.lowest = omega arith in
    let high : max s.highest s.highest ≡ s.highest = omega arith in
    λ i. some (record { lowest = low i; highest = high i })

-- the last of three put in front of the second
hull_swap : (k m n : Marks) → hull (hull k m) n ≡ hull (hull k n) m
hull_swap k m n = hull_assoc k m n ∙ ap (hull k) (hull_comm m n) ∙ sym (hull_assoc k n m)

-- ---- the marks of some addresses

pub span_append : (xs ys : List ℕ) → span_of (xs ++ ys) ≡ hull (span_of xs) (span_of ys)
unfolding span_of hull
span_append [] ys = refl
span_append (x ∷ xs) ys = ap (hull (point x)) (span_append xs ys) ∙ sym (hull_assoc (point x) (span_of xs) (span_of ys))

-- an address lies within the marks
abbrev pub Covers : Marks → ℕ → Type 0
Covers none a = ⊥
Covers (some s) a = (s.lowest ≤ a) × (a ≤ s.highest)

pub covers_left : (m n : Marks) (a : ℕ) → Covers m a → Covers (hull m n) a
unfolding hull
covers_left none n a c = absurd c
covers_left (some s) none a c = c
covers_left (some s) (some t) a c = (omega (arith, c.0), omega (arith, c.1))

pub covers_right : (m n : Marks) (a : ℕ) → Covers n a → Covers (hull m n) a
covers_right m n a c = rw (hull_comm m n) (covers_left n m a c)

all_covered : (m n : Marks) → ((a : ℕ) → Covers m a → Covers n a) → (xs : List ℕ) → All (Covers m) xs → All (Covers n) xs
all_covered m n h [] c = tt
all_covered m n h (x ∷ xs) c = (h x c.0, all_covered m n h xs c.1)

pub all_left : (m n : Marks) (xs : List ℕ) → All (Covers m) xs → All (Covers (hull m n)) xs
all_left m n xs c = all_covered m (hull m n) (covers_left m n) xs c

pub all_right : (m n : Marks) (xs : List ℕ) → All (Covers n) xs → All (Covers (hull m n)) xs
all_right m n xs c = all_covered n (hull m n) (covers_right m n) xs c

-- THE MARKS OF ADDRESSES HOLD EACH OF THEM
pub span_covers : (xs : List ℕ) → All (Covers (span_of xs)) xs
unfolding span_of
span_covers [] = tt
span_covers (x ∷ xs) = (covers_left (point x) (span_of xs) x (le_refl x, le_refl x), all_right (point x) (span_of xs) xs (span_covers xs))

-- ---- the marks of some lines

-- all marks together of the places that P picks out
abbrev pub hull_of : (ℕ → Bool) → List Marks → Marks
hull_of P [] = none
hull_of P (m ∷ ms) = hull (when P 0 then m else none) (hull_of (λ p. P (suc p)) ms)

pub hull_of_ext : (P Q : ℕ → Bool) → ((p : ℕ) → P p ≡ Q p) → (ms : List Marks) → hull_of P ms ≡ hull_of Q ms
hull_of_ext P Q h [] = refl
hull_of_ext P Q h (m ∷ ms) = rw (h 0, hull_of_ext (λ p. P (suc p)) (λ p. Q (suc p)) (λ p. h (suc p)) ms)

hull_of_none : (P : ℕ → Bool) → ((p : ℕ) → P p ≡ false) → (ms : List Marks) → hull_of P ms ≡ none
unfolding hull when◌then◌else◌
hull_of_none P h [] = refl
hull_of_none P h (m ∷ ms) = rw (h 0, hull_of_none (λ p. P (suc p)) (λ p. h (suc p)) ms)

-- two tests for the same
eqb_same : (a b c d : ℕ) → (a ≡ b → c ≡ d) → (c ≡ d → a ≡ b) → eqb a b ≡ eqb c d
eqb_same a b c d f g = go (eqb a b) refl
  where
    go : (t : Bool) → eqb a b ≡ t → eqb a b ≡ eqb c d
    go true e = e ∙ sym (eq-eqb c d (f (eqb-true a b e)))
    go false e = e ∙ sym (ne_eqb c d (λ h. eqb-false a b e (g h)))

eqb-suc : (p q : ℕ) → eqb (suc p) (suc q) ≡ eqb p q
eqb-suc p q = eqb_same (suc p) (suc q) p q (λ e. omega arith) (λ e. omega arith)

-- one place
pub hull_of_one : (q : ℕ) (ms : List Marks) → hull_of (λ p. eqb p q) ms ≡ get_or ms q none
unfolding when◌then◌else◌ hull
hull_of_one q [] = refl
hull_of_one zero (m ∷ ms) = rw (hull_of_none (λ p. eqb (suc p) zero) (λ p. ne_eqb (suc p) zero (λ e. omega arith)) ms) (hull_none m)
hull_of_one (suc q) (m ∷ ms) =
    rw (ne_eqb zero (suc q) (λ e. omega arith), hull_of_ext (λ p. eqb (suc p) (suc q)) (λ p. eqb p q) (λ p. eqb-suc p q) ms) (hull_of_one q ms)

-- one place changed
hull_of-modify : (P : ℕ → Bool) (m : Marks) (j : ℕ) (ms : List Marks) → j < length ms
    → hull_of P (modify j (λ n. hull n m) ms) ≡ hull (hull_of P ms) (when P j then m else none)
hull_of-modify P m j [] h = absurd (omega arith)
hull_of-modify P m zero (n ∷ ms) h = go (P 0) (hull_of (λ p. P (suc p)) ms)
  where
    go : (b : Bool) (k : Marks) → hull (when b then hull n m else none) k ≡ hull (hull (when b then n else none) k) (when b then m else none)
    go true k = unfold when◌then◌else◌ in hull_swap n m k
    go false k = unfold when◌then◌else◌ in sym (hull_none (hull none k))
hull_of-modify P m (suc j) (n ∷ ms) h =
    ap (hull (when P 0 then n else none)) (hull_of-modify (λ p. P (suc p)) m j ms (omega arith))
    ∙ sym (hull_assoc (when P 0 then n else none) (hull_of (λ p. P (suc p)) ms) (when P (suc j) then m else none))

-- several places changed
module _ (P : ℕ → Bool) (m : Marks) where
  pub hull_of-take_in : (js : List ℕ) (ms : List Marks) → All (λ j. j < length ms) js
      → hull_of P (take_in m js ms) ≡ hull (hull_of P ms) (when any P js then m else none)
  unfolding take_in
  hull_of-take_in [] ms h = unfold when◌then◌else◌ in sym (hull_none (hull_of P ms))
  hull_of-take_in (j ∷ js) ms h =
      let ms' : List Marks = modify j (λ n. hull n m) ms in
      hull_of-take_in js ms' (still js h.1)
      ∙ ap (λ (k : Marks). hull k (when any P js then m else none)) (hull_of-modify P m j ms h.0)
      ∙ once (P j) (any P js) (hull_of P ms)
    where
      still : (ks : List ℕ) → All (λ k. k < length ms) ks → All (λ k. k < length (modify j (λ n. hull n m) ms)) ks
      still [] h = tt
      still (k ∷ ks) h = (rw (length-modify (λ n. hull n m) j ms) h.0, still ks h.1)

      once : (b c : Bool) (k : Marks) → hull (hull k (when b then m else none)) (when c then m else none) ≡ hull k (when b or c then m else none)
      once true true k = unfold when◌then◌else◌ ◌or◌ in hull_assoc k m m ∙ ap (hull k) (hull_same m)
      once true false k = unfold when◌then◌else◌ ◌or◌ in hull_none (hull k m)
      once false c k = unfold when◌then◌else◌ ◌or◌ in ap (λ (x : Marks). hull x (when c then m else none)) (hull_none k)

-- ---- a place removed

pub moved-above : (i p : ℕ) → i < p → moved i p ≡ pred p
unfolding moved
moved-above i p h = by-if (λ (n : ℕ). n ≡ pred p) (λ e. refl) (λ e. absurd (omega (arith, ltb-false i p e)))

pub moved-below : (i p : ℕ) → p ≤ i → moved i p ≡ p
unfolding moved
moved-below i p h = by-if (λ (n : ℕ). n ≡ p) (λ e. absurd (omega (arith, ltb-true i p e))) (λ e. refl)

moved-suc : (i p : ℕ) → (p ≡ i → ⊥) → moved (suc i) (suc p) ≡ suc (moved i p)
unfolding moved
moved-suc i p n =
    by-if (λ (k : ℕ). moved (suc i) (suc p) ≡ suc k)
    (λ e. (let lt : i < p = ltb-true i p e in let z : pred (suc p) ≡ suc (pred p) = omega arith in moved-above (suc i) (suc p) (omega arith) ∙ z))
    (λ e. (let le : p ≤ i = ltb-false i p e in moved-below (suc i) (suc p) (omega arith)))

-- P, but not at the place i
abbrev pub but : ℕ → (ℕ → Bool) → ℕ → Bool
but i P p = when eqb p i then false else P p

module _ (i : ℕ) (P : ℕ → Bool) where
  pub but_there : (p : ℕ) → p ≡ i → but i P p ≡ false
  but_there p e = by-if (λ (b : Bool). b ≡ false) (λ h. refl) (λ h. absurd (eqb-false p i h e))

  pub but_elsewhere : (p : ℕ) → (p ≡ i → ⊥) → but i P p ≡ P p
  but_elsewhere p n = by-if (λ (b : Bool). b ≡ P p) (λ h. absurd (n (eqb-true p i h))) (λ h. refl)

  -- two that agree elsewhere
  pub but_same : (Q : ℕ → Bool) → ((p : ℕ) → (p ≡ i → ⊥) → P p ≡ Q p) → (p : ℕ) → but i P p ≡ but i Q p
  but_same Q h p =
      by-if (λ (b : Bool). b ≡ but i Q p)
      (λ e. sym (by-if (λ (b : Bool). b ≡ false) (λ e. refl) (λ f. absurd (eqb-false p i f (eqb-true p i e)))))
      (λ e. h p (eqb-false p i e) ∙ sym (by-if (λ (b : Bool). b ≡ Q p) (λ f. absurd (eqb-false p i e (eqb-true p i f))) (λ f. refl)))

but_suc : (i : ℕ) (P : ℕ → Bool) (p : ℕ) → but (suc i) P (suc p) ≡ but i (λ p. P (suc p)) p
but_suc i P p = ap (λ (b : Bool). when b then false else P (suc p)) (eqb-suc p i)

pub hull_of-remove : (i : ℕ) (P : ℕ → Bool) (ms : List Marks) → hull_of P (remove i ms) ≡ hull_of (but i (λ p. P (moved i p))) ms
hull_of-remove i P [] = refl
hull_of-remove zero P (m ∷ ms) =
    sym (rw (but_there 0 (λ p. P (moved 0 p)) 0 refl, hull_of_ext (λ p. but 0 (λ p. P (moved 0 p)) (suc p)) P after ms) (unfold when◌then◌else◌ hull in refl))
  where
    after : (p : ℕ) → but 0 (λ p. P (moved 0 p)) (suc p) ≡ P p
    after p =
        let z : pred (suc p) ≡ p = omega arith in
        but_elsewhere 0 (λ p. P (moved 0 p)) (suc p) (λ e. omega arith) ∙ ap P (moved-above 0 (suc p) (omega arith) ∙ z)
hull_of-remove (suc i) P (m ∷ ms) =
    ap (hull (when P 0 then m else none)) (hull_of-remove i (λ p. P (suc p)) ms ∙ hull_of_ext _ _ (λ p. sym (after p)) ms)
    ∙ ap (λ (b : Bool). hull (when b then m else none) (hull_of (λ p. but (suc i) (λ p. P (moved (suc i) p)) (suc p)) ms)) (sym first)
  where
    first : but (suc i) (λ p. P (moved (suc i) p)) 0 ≡ P 0
    first = but_elsewhere (suc i) (λ p. P (moved (suc i) p)) 0 (λ e. omega arith) ∙ ap P (moved-below (suc i) 0 (omega arith))

    after : (p : ℕ) → but (suc i) (λ p. P (moved (suc i) p)) (suc p) ≡ but i (λ p. P (suc (moved i p))) p
    after p =
        but_suc i (λ p. P (moved (suc i) p)) p
        ∙ but_same i (λ p. P (moved (suc i) (suc p))) (λ p. P (suc (moved i p))) (λ p n. ap P (moved-suc i p n)) p

-- one place taken by itself
pub hull_of-split : (i : ℕ) (P : ℕ → Bool) (ms : List Marks) → i < length ms
    → hull_of P ms ≡ hull (hull_of (but i P) ms) (when P i then get_or ms i none else none)
hull_of-split i P [] h = absurd (omega arith)
hull_of-split zero P (m ∷ ms) h =
    hull_comm (when P 0 then m else none) (hull_of (λ p. P (suc p)) ms)
    ∙ sym (ap (λ (k : Marks). hull k (when P 0 then m else none))
    (rw (but_there 0 P 0 refl, hull_of_ext (λ p. but 0 P (suc p)) (λ p. P (suc p)) (λ p. but_elsewhere 0 P (suc p) (λ e. omega arith)) ms) (unfold when◌then◌else◌ hull in refl)))
hull_of-split (suc i) P (m ∷ ms) h =
    ap (hull (when P 0 then m else none)) (hull_of-split i (λ p. P (suc p)) ms (omega arith)
    ∙ ap (λ (k : Marks). hull k (when P (suc i) then get_or ms i none else none)) (hull_of_ext _ _ (λ p. sym (but_suc i P p)) ms))
    ∙ sym (hull_assoc (when P 0 then m else none) (hull_of (λ p. but (suc i) P (suc p)) ms) (when P (suc i) then get_or ms i none else none))
    ∙ ap (λ (b : Bool). hull (hull (when b then m else none) (hull_of (λ p. but (suc i) P (suc p)) ms)) (when P (suc i) then get_or ms i none else none))
    (sym (but_elsewhere (suc i) P 0 (λ e. omega arith)))
