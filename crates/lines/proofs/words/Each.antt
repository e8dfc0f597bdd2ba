-- What holds of every number of a list, by index, and lists of what numbers mean. Assumes nothing.
use Prim.Native.Nat.{ℕ, zero, suc, ◌+◌, ◌-◌, ◌<◌, min}
use native.Mathlib.Nat.{lt_of_lt_of_le, min-le_left, min-le_right}
use native.Mathlib.Omega.{arith}
use native.Mathlib.Decide.{dec_lt, ℕ_discrete}
use mathlib.Core.Logic.{by_cases}
use mathlib.Core.Path.{◌≡◌, refl, ap}
use mathlib.Core.List.{List, [], ◌∷◌, ◌++◌, map}
use lib.ListN.{length, take, drop, get_or, set, length-take, length-drop, length-append, length-set, get_or-append}
use lib.Seq.{get_or-take, get_or-drop, get_or-append-add, get_or-set_same, get_or-set_other}
use Rattle.reference.specs.Lists.{remove, modify}

module _ (P : ℕ → Type 0) where
  abbrev pub Each : List ℕ → Type 0
  Each ls = (k : ℕ) → k < length ls → P (get_or ls k 0)

  pub each_none : Each []
  each_none k h = absurd (omega arith)

  pub each_one : {v : ℕ} → P v → Each (v ∷ [])
  each_one p k h = let e : k ≡ 0 = omega arith in rw e p

  module _ (ls : List ℕ) (e : Each ls) where
    pub each_take : (n : ℕ) → Each (take n ls)
    each_take n k h =
        let h' : k < min n (length ls) = rw length-take at h in
        rw (get_or-take n ls k 0 (lt_of_lt_of_le h' (min-le_left n (length ls)))) (e k (lt_of_lt_of_le h' (min-le_right n (length ls))))

    pub each-drop : (n : ℕ) → Each (drop n ls)
    each-drop n k h = rw get_or-drop (e (n + k) (let h' : k < length ls - n = rw length-drop at h in omega arith))

    pub each_append : (vs : List ℕ) → Each vs → Each (ls ++ vs)
    each_append vs f k h =
        by_cases (dec_lt k (length ls))
        (λ b. rw (get_or-append ls vs 0 k b) (e k b))
        (λ b.
        let q : k ≡ length ls + (k - length ls) = omega (arith, b) in
        let h' : k < length ls + length vs = rw (length-append ls vs) at h in
        rw (q, get_or-append-add ls vs (k - length ls) 0) (f (k - length ls) (omega (arith, b))))

    pub each_set : {v : ℕ} (i : ℕ) → P v → Each (set ls i v)
    each_set {v} i p k h =
        let h' : k < length ls = rw length-set at h in
        by_cases (ℕ_discrete k i)
        (λ q. let b : i < length ls = omega arith in rw (q, get_or-set_same ls i v 0 b) p)
        (λ n. rw (get_or-set_other ls i k v 0 n) (e k h'))

  pub each-remove : (i : ℕ) (ls : List ℕ) → Each ls → Each (remove i ls)
  each-remove i [] e k h = absurd (omega arith)
  each-remove zero (l ∷ ls) e k h = e (suc k) (omega arith)
  each-remove (suc i) (l ∷ ls) e zero h = e 0 (omega arith)
  each-remove (suc i) (l ∷ ls) e (suc k) h = each-remove i ls (λ j b. e (suc j) (omega arith)) k (omega arith)

module _ {A : Type 0} (f : ℕ → A) where
  pub map_at : (ls : List ℕ) (k : ℕ) (d : A) → k < length ls → get_or (map f ls) k d ≡ f (get_or ls k 0)
  map_at [] k d h = absurd (omega arith)
  map_at (l ∷ ls) zero d h = refl
  map_at (l ∷ ls) (suc k) d h = map_at ls k d (omega arith)

  pub map-take : (n : ℕ) (ls : List ℕ) → map f (take n ls) ≡ take n (map f ls)
  map-take zero ls = refl
  map-take (suc n) [] = refl
  map-take (suc n) (l ∷ ls) = ap (λ (r : List A). f l ∷ r) (map-take n ls)

  pub map-drop : (n : ℕ) (ls : List ℕ) → map f (drop n ls) ≡ drop n (map f ls)
  map-drop zero ls = refl
  map-drop (suc n) [] = refl
  map-drop (suc n) (l ∷ ls) = map-drop n ls

  -- the number put at i means what g makes of the old one's meaning
  pub map-set : (g : A → A) (i : ℕ) (ls : List ℕ) (v : ℕ) → (i < length ls → f v ≡ g (f (get_or ls i 0))) → map f (set ls i v) ≡ modify i g (map f ls)
  map-set g i [] v e = refl
  map-set g zero (l ∷ ls) v e = ap (λ (x : A). x ∷ map f ls) (e (omega arith))
  map-set g (suc i) (l ∷ ls) v e = ap (λ (r : List A). f l ∷ r) (map-set g i ls v (λ h. e (omega arith)))

  -- two meanings that agree on the list
  pub map_same : (g : ℕ → A) (ls : List ℕ) → Each (λ l. f l ≡ g l) ls → map f ls ≡ map g ls
  map_same g [] e = refl
  map_same g (l ∷ ls) e = cc (e 0 (omega arith), map_same g ls (λ k h. e (suc k) (omega arith)))
