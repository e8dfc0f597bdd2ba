-- A word removed in place: the later ones move up, one after the other. Assumes nothing.
use Prim.Native.Nat.{ℕ, zero, suc, ◌+◌, ◌-◌, ◌≤◌, ◌<◌}
use native.Mathlib.Omega.{arith}
use native.Mathlib.Nat.{not-suc-le-zero, le_of_suc-le-suc}
use native.Mathlib.Numerals.{add-one}
use mathlib.Core.Path.{◌≡◌, refl, sym, ap, ◌∙◌}
use mathlib.Core.List.{List, [], ◌∷◌, ◌++◌, map}
use lib.ListN.{length, get_or, set, take, drop, take-append-drop}
use lib.Seq.{take-suc, drop-cons, append_snoc, set_at, take_at, take_all, get_or-append-add, get_or-drop, length-take-le}
use Rattle.reference.specs.Lists.{remove}

pub length-remove : (i : ℕ) (xs : List ℕ) → i < length xs → length (remove i xs) + 1 ≡ length xs
length-remove i [] h = absurd (not-suc-le-zero h)
length-remove zero (x ∷ xs) h = omega arith
length-remove (suc i) (x ∷ xs) h = omega (arith, length-remove i xs (le_of_suc-le-suc h))

remove_at : (i k : ℕ) (xs : List ℕ) → i ≤ k → get_or (remove i xs) k 0 ≡ get_or xs (suc k) 0
remove_at i k [] h = refl
remove_at zero k (x ∷ xs) h = refl
remove_at (suc i) zero (x ∷ xs) h = absurd (not-suc-le-zero h)
remove_at (suc i) (suc k) (x ∷ xs) h = remove_at i k xs (le_of_suc-le-suc h)

remove-front : (i : ℕ) (xs : List ℕ) → take i (remove i xs) ≡ take i xs
remove-front i [] = refl
remove-front zero (x ∷ xs) = refl
remove-front (suc i) (x ∷ xs) = ap {B = List ℕ} (λ r. x ∷ r) (remove-front i xs)

pub map-remove {ℓ} : {B : Type ℓ} (f : ℕ → B) (i : ℕ) (xs : List ℕ) → map f (remove i xs) ≡ remove i (map f xs)
map-remove f i [] = refl
map-remove f zero (x ∷ xs) = refl
map-remove {B = B} f (suc i) (x ∷ xs) = ap {B = List B} (λ r. f x ∷ r) (map-remove f i xs)

-- the words before k are those that stay, the rest is still the old one
abbrev pub removing : List ℕ → ℕ → ℕ → List ℕ
removing xs i k = take k (remove i xs) ++ drop k xs

module _ (xs : List ℕ) (i : ℕ) (h : i < length xs) where
  pub remove_begin : xs ≡ removing xs i i
  remove_begin = sym (ap (λ (r : List ℕ). r ++ drop i xs) (remove-front i xs) ∙ take-append-drop i xs)

  pub remove-step : {k : ℕ} {ws : List ℕ} → i ≤ k → k + 1 < length xs → ws ≡ removing xs i k → set ws k (get_or ws (k + 1) 0) ≡ removing xs i (k + 1)
  remove-step {k} lo hi e =
      let left : List ℕ = take k (remove i xs) in
      let size : length left ≡ k = length-take-le k (remove i xs) (omega (arith, length-remove i xs h)) in
      let next : get_or (left ++ drop k xs) (k + 1) 0 ≡ get_or xs (suc k) 0 =
      ap (λ (m : ℕ). get_or (left ++ drop k xs) (m + 1) 0) (sym size) ∙ get_or-append-add left (drop k xs) 1 0 ∙ get_or-drop k xs 1 0 ∙ rw (add-one k) in
      let b : k < length xs = omega arith in
      let c : k < length (remove i xs) = omega (arith, length-remove i xs h) in
      rw (e, next, drop-cons xs k 0 b)
      (set_at left (get_or xs k 0) (drop (suc k) xs) (get_or xs (suc k) 0) k size
      ∙ rw (add-one k, take-suc (remove i xs) k 0 c, remove_at i k xs lo) (sym (append_snoc left (get_or xs (suc k) 0) (drop (suc k) xs))))

  pub remove_end : {k : ℕ} {ws : List ℕ} → k < length xs → length xs ≤ k + 1 → ws ≡ removing xs i k → ws ≡ remove i xs ++ drop (length xs - 1) xs
  remove_end {k} lo hi e =
      let last : k ≡ length xs - 1 = omega arith in
      let all : take k (remove i xs) ≡ remove i xs = take_all k (remove i xs) (omega (arith, length-remove i xs h)) in
      e ∙ rw (all, last)

  -- what is in use then
  pub remove-used : {ws : List ℕ} → ws ≡ remove i xs ++ drop (length xs - 1) xs → take (length xs - 1) ws ≡ remove i xs
  remove-used e = ap (take (length xs - 1)) e ∙ take_at (remove i xs) (drop (length xs - 1) xs) (length xs - 1) (omega (arith, length-remove i xs h))
