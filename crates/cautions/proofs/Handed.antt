-- A removed line hands its set on: what a test of the places behind the removal picks out is what it picked out before. Assumes nothing.
use Prim.Native.Nat.{ℕ, zero, suc, pred, ◌+◌, ◌<◌, ◌≤◌}
use native.Mathlib.Omega.{arith}
use native.Mathlib.Nat.{eq-or-lt_of_le}
use mathlib.Core.Path.{◌≡◌, refl, sym, ap, ◌∙◌, subst}
use mathlib.Core.Logic.{⊎_elim}
use mathlib.Core.Bool.{Bool, true, false}
use mathlib.Core.List.{List, [], ◌∷◌}
use lib.Dec.{eqb}
use lib.ListN.{length, get_or}
use borrow.Author.Tests.{eq-eqb, ne_eqb, eqb-true, eqb-false}
use Rattle.reference.specs.Control.{◌or◌, when◌then◌else◌}
use Rattle.reference.specs.Lists.{any, remove}
use Rattle.reference.specs.Listing.{Listing}
use Rattle.reference.specs.Run.{Attempt, success}
use Rattle.reference.specs.Marks.{moved, comes_to}
use Rattle.reference.proofs.Cases.{either, true-false}
use Rattle.reference.proofs.Attempts.{Joined}
use Rattle.reference.proofs.Limits.{All}
use Rattle.reference.proofs.Spans.{moved-above, moved-below}
use Rattle.cautions.specs.Kinds.{◌∪◌, ◌⊆◌, ◌given◌}
use Rattle.cautions.specs.Joins.{put}
use Rattle.cautions.specs.Cautions.{picked, hand_on}
use Rattle.cautions.proofs.Sets.{in_trans, in_left, in_right, in_self, union_in, in_both, given_true, given_in, picked_has, picked_in}

-- ---- sets put on lines

pub length-put : (s : ℕ) (js : List ℕ) (p : ℕ) (ts : List ℕ) → length (put s js p ts) ≡ length ts
unfolding put
length-put s js p [] = refl
length-put s js p (t ∷ ts) = ap suc (length-put s js (suc p) ts)

shifted : (p k : ℕ) → suc p + k ≡ p + suc k
shifted p k = omega arith

module _ (s : ℕ) (js : List ℕ) where
  -- what stood there stays
  pub put_keeps : (p : ℕ) (ts : List ℕ) (k : ℕ) → get_or ts k 0 ⊆ get_or (put s js p ts) k 0
  unfolding put
  put_keeps p [] k = refl
  put_keeps p (t ∷ ts) zero = in_left t (s given any (eqb p) js)
  put_keeps p (t ∷ ts) (suc k) = put_keeps (suc p) ts k

  -- the set stands on the lines of the list
  put_puts : (p : ℕ) (ts : List ℕ) (k : ℕ) → k < length ts → any (eqb (p + k)) js ≡ true → s ⊆ get_or (put s js p ts) k 0
  unfolding put
  put_puts p [] k h e = absurd (omega arith)
  put_puts p (t ∷ ts) zero h e =
      let z : p + 0 ≡ p = omega arith in
      let here : any (eqb p) js ≡ true = subst (λ (n : ℕ). any (eqb n) js ≡ true) z e in
      subst (λ (x : ℕ). s ⊆ t ∪ x) (sym (given_true s (any (eqb p) js) here)) (in_right t s)
  put_puts p (t ∷ ts) (suc k) h e =
      put_puts (suc p) ts k (omega arith) (subst (λ (n : ℕ). any (eqb n) js ≡ true) (sym (shifted p k)) e)

  -- and no more
  put_only : (p : ℕ) (ts : List ℕ) (k : ℕ) → get_or (put s js p ts) k 0 ⊆ get_or ts k 0 ∪ s given any (eqb (p + k)) js
  unfolding put
  put_only p [] k = refl
  put_only p (t ∷ ts) zero =
      let z : p + 0 ≡ p = omega arith in
      subst (λ (n : ℕ). t ∪ s given any (eqb p) js ⊆ t ∪ s given any (eqb n) js) (sym z) (in_self (t ∪ s given any (eqb p) js))
  put_only p (t ∷ ts) (suc k) =
      subst (λ (n : ℕ). get_or (put s js (suc p) ts) k 0 ⊆ get_or ts k 0 ∪ s given any (eqb n) js) (shifted p k) (put_only (suc p) ts k)

  -- the same from line 0 on
  pub put_on : (ts : List ℕ) (k : ℕ) → k < length ts → any (eqb k) js ≡ true → s ⊆ get_or (put s js 0 ts) k 0
  put_on ts k h e = let z : 0 + k ≡ k = omega arith in put_puts 0 ts k h (subst (λ (n : ℕ). any (eqb n) js ≡ true) (sym z) e)

  put_adds : (ts : List ℕ) (k : ℕ) → get_or (put s js 0 ts) k 0 ⊆ get_or ts k 0 ∪ s given any (eqb k) js
  put_adds ts k =
      let z : 0 + k ≡ k = omega arith in
      subst (λ (n : ℕ). get_or (put s js 0 ts) k 0 ⊆ get_or ts k 0 ∪ s given any (eqb n) js) z (put_only 0 ts k)

-- ---- a place removed

-- the place before line i was removed, of the line that is now at p
unmoved : ℕ → ℕ → ℕ
unmoved zero p = suc p
unmoved (suc i) zero = zero
unmoved (suc i) (suc p) = suc (unmoved i p)

unmoved-below : (i p : ℕ) → p < i → unmoved i p ≡ p
unfolding unmoved
unmoved-below zero p h = absurd (omega arith)
unmoved-below (suc i) zero h = refl
unmoved-below (suc i) (suc p) h = ap suc (unmoved-below i p (omega arith))

unmoved-above : (i p : ℕ) → i ≤ p → unmoved i p ≡ suc p
unfolding unmoved
unmoved-above zero p h = refl
unmoved-above (suc i) zero h = absurd (omega arith)
unmoved-above (suc i) (suc p) h = ap suc (unmoved-above i p (omega arith))

-- below or not
by_place {ℓ} : (P : Type ℓ) (i p : ℕ) → (p < i → P) → (i ≤ p → P) → P
by_place P zero p f g = g (omega arith)
by_place P (suc i) zero f g = f (omega arith)
by_place P (suc i) (suc p) f g = by_place P i p (λ h. f (omega arith)) (λ h. g (omega arith))

unmoved_other : (i p : ℕ) → unmoved i p ≡ i → ⊥
unmoved_other i p e =
    by_place ⊥ i p (λ h. let u = unmoved-below i p h in omega (arith, e, u)) (λ h. let u = unmoved-above i p h in omega (arith, e, u))

moved-unmoved : (i p : ℕ) → moved i (unmoved i p) ≡ p
moved-unmoved i p =
    by_place (moved i (unmoved i p) ≡ p) i p
    (λ h. let u = unmoved-below i p h in ap (moved i) u ∙ moved-below i p (omega arith))
    (λ h. let u = unmoved-above i p h in let z : pred (suc p) ≡ p = omega arith in ap (moved i) u ∙ moved-above i (suc p) (omega arith) ∙ z)

unmoved-moved : (i p : ℕ) → (p ≡ i → ⊥) → unmoved i (moved i p) ≡ p
unmoved-moved i p n =
    by_place (unmoved i (moved i p) ≡ p) i p
    (λ h. ap (unmoved i) (moved-below i p (omega arith)) ∙ unmoved-below i p h)
    (λ h.
    ⊎_elim (λ (e : i ≡ p). absurd (n (sym e)))
    (λ (lt : i < p). (let z : suc (pred p) ≡ p = omega arith in ap (unmoved i) (moved-above i p lt) ∙ unmoved-above i (pred p) (omega arith) ∙ z))
    (eq-or-lt_of_le h))

get-remove : (i : ℕ) (xs : List ℕ) (p : ℕ) → get_or (remove i xs) p 0 ≡ get_or xs (unmoved i p) 0
unfolding unmoved
get-remove i [] p = refl
get-remove zero (x ∷ xs) p = refl
get-remove (suc i) (x ∷ xs) zero = refl
get-remove (suc i) (x ∷ xs) (suc p) = get-remove i xs p

-- ---- tests of some places

-- where a test of one of them holds
abbrev Found : (ℕ → Bool) → (ℕ → Type 0) → List ℕ → Type 0
Found P Q js = (j : ℕ) × (P j ≡ true) × Q j × (any (eqb j) js ≡ true)

or_later : (a b : Bool) → b ≡ true → (a or b) ≡ true
unfolding ◌or◌
or_later true b e = refl
or_later false b e = e

found_in : (P : ℕ → Bool) (Q : ℕ → Type 0) (j : ℕ) (js : List ℕ) → Q j → (any P js ≡ true → Found P Q js) → (b : Bool) → P j ≡ b
    → any P (j ∷ js) ≡ true → Found P Q (j ∷ js)
unfolding ◌or◌
found_in P Q j js h next true f e = (j, f, h, rw (eq-eqb j j refl) refl)
found_in P Q j js h next false f e = let r = next (rw f at e) in (r.0, r.1, r.2, or_later (eqb r.0 j) (any (eqb r.0) js) r.3)

pub found : (P : ℕ → Bool) (Q : ℕ → Type 0) (js : List ℕ) → All Q js → any P js ≡ true → Found P Q js
found P Q [] h e = absurd (true-false refl (sym e))
found P Q (j ∷ js) h e = found_in P Q j js h.0 (λ f. found P Q js h.1 f) (P j) refl e

-- and back
any_has : (P : ℕ → Bool) (k : ℕ) (js : List ℕ) → any (eqb k) js ≡ true → P k ≡ true → any P js ≡ true
unfolding ◌or◌
any_has P k [] e f = e
any_has P k (j ∷ js) e f =
    either (any P (j ∷ js) ≡ true) e (λ h. let z : k ≡ j = eqb-true k j h in rw (subst (λ (n : ℕ). P n ≡ true) z f) refl)
    (λ h. or_later (P j) (any P js) (any_has P k js h f))

-- ---- the hand-on

module _ (i : ℕ) (js : List ℕ) (left : Listing) (more : List Attempt) (q : ℕ) where
  -- where line p comes to, line i being joined into the lines js
  abbrev pub through : ℕ → Bool
  through p = comes_to (success i js left ∷ more) p q

  abbrev pub later : ℕ → Bool
  later p = comes_to more p q

  pub through_it : through i ≡ any (λ j. later (moved i j)) js
  unfolding comes_to when◌then◌else◌
  through_it = rw (eq-eqb i i refl)

  pub through_others : (p : ℕ) → (p ≡ i → ⊥) → through p ≡ later (moved i p)
  unfolding comes_to when◌then◌else◌
  through_others p n = rw (ne_eqb p i n)

  -- what the lines behind it have, the lines before it had
  module _ (ss : List ℕ) (j : Joined i (length ss) js) where
    s : ℕ
    s = get_or ss i 0

    handed_from : picked later (hand_on i js ss) ⊆ picked through ss
    unfolding hand_on s
    handed_from =
        picked_in later (hand_on i js ss) (picked through ss)
        (λ p e.
        let k : ℕ = unmoved i p in
        let other : k ≡ i → ⊥ = unmoved_other i p in
        let there : later (moved i k) ≡ true = ap later (moved-unmoved i p) ∙ e in
        subst (λ (x : ℕ). x ⊆ picked through ss) (sym (get-remove i (put s js 0 ss) p))
        (in_trans (get_or (put s js 0 ss) k 0) (get_or ss k 0 ∪ s given any (eqb k) js) (picked through ss) (put_adds s js ss k)
        (union_in (get_or ss k 0) (s given any (eqb k) js) (picked through ss)
        (picked_has through ss k (through_others k other ∙ there))
        (given_in s (picked through ss) (any (eqb k) js) (λ f.
        picked_has through ss i (through_it ∙ any_has (λ j. later (moved i j)) k js f there))))))

    handed_to : picked through ss ⊆ picked later (hand_on i js ss)
    unfolding hand_on s
    handed_to =
        picked_in through ss (picked later (hand_on i js ss))
        (λ p e. go p e (eqb p i) refl)
      where
        -- a line that stays
        stands : (p : ℕ) → (p ≡ i → ⊥) → later (moved i p) ≡ true → get_or (put s js 0 ss) p 0 ⊆ picked later (hand_on i js ss)
        stands p n e =
            subst (λ (x : ℕ). x ⊆ picked later (hand_on i js ss))
            (get-remove i (put s js 0 ss) (moved i p) ∙ ap (λ (k : ℕ). get_or (put s js 0 ss) k 0) (unmoved-moved i p n))
            (picked_has later (hand_on i js ss) (moved i p) e)

        go : (p : ℕ) → through p ≡ true → (b : Bool) → eqb p i ≡ b → get_or ss p 0 ⊆ picked later (hand_on i js ss)
        go p e false f =
            let n = eqb-false p i f in
            in_trans (get_or ss p 0) (get_or (put s js 0 ss) p 0) _ (put_keeps s js 0 ss p) (stands p n (sym (through_others p n) ∙ e))
        go p e true f =
            let z : p ≡ i = eqb-true p i f in
            let r = found (λ j. later (moved i j)) (λ j. (i < j) × (j < length ss)) js j.each (sym through_it ∙ subst (λ (n : ℕ). through n ≡ true) z e) in
            let b = r.2 in
            subst (λ (n : ℕ). get_or ss n 0 ⊆ picked later (hand_on i js ss)) (sym z)
            (in_trans s (get_or (put s js 0 ss) r.0 0) _ (put_on s js ss r.0 b.1 r.3) (stands r.0 (λ w. omega (arith, b.0, w)) r.1))

    pub handed : picked later (hand_on i js ss) ≡ picked through ss
    handed = in_both (picked later (hand_on i js ss)) (picked through ss) handed_from handed_to
