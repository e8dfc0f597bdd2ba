-- Lists by their indices: `map_from`, and elements changed and removed. Assumes nothing.
use Prim.Native.Nat.{ℕ, zero, suc, ◌+◌, ◌≤◌, ◌<◌}
use native.Mathlib.Omega.{arith}
use native.Mathlib.Nat.{le_refl, add-zero, add-suc, suc-add, not-suc-le-zero, le_of_suc-le-suc}
use mathlib.Core.Path.{◌≡◌, refl, ap, ◌∙◌, subst}
use mathlib.Core.List.{List, [], ◌∷◌, ◌++◌, map}
use lib.ListN.{length, get_or}
use Rattle.reference.specs.Lists.{modify}
use Rattle.joining.specs.Plan.{map_from}

pub get_d_map {ℓ κ} : {A : Type ℓ} {B : Type κ} (f : A → B) (xs : List A) (k : ℕ) (d : A) (e : B) → k < length xs → get_or (map f xs) k e ≡ f (get_or xs k d)
get_d_map f [] k d e h = absurd (not-suc-le-zero h)
get_d_map f (x ∷ xs) zero d e h = refl
get_d_map f (x ∷ xs) (suc k) d e h = get_d_map f xs k d e (le_of_suc-le-suc h)

module _ {ℓ κ} {A : Type ℓ} {B : Type κ} (f : ℕ → A → B) where
  pub length-map-from : (k : ℕ) (xs : List A) → length (map_from f k xs) ≡ length xs
  length-map-from k [] = refl
  length-map-from k (x ∷ xs) = ap suc (length-map-from (suc k) xs)

  pub map-from_append : (k : ℕ) (xs ys : List A) → map_from f k (xs ++ ys) ≡ map_from f k xs ++ map_from f (k + length xs) ys
  map-from_append k [] ys = rw (add-zero k)
  map-from_append k (x ∷ xs) ys = ap {B = List B} (λ r. f k x ∷ r) (map-from_append (suc k) xs ys ∙ rw (add-suc k (length xs), suc-add k (length xs)))

  pub getD_map_from : (k : ℕ) (xs : List A) (m : ℕ) (d : A) (e : B) → m < length xs → get_or (map_from f k xs) m e ≡ f (k + m) (get_or xs m d)
  getD_map_from k [] m d e h = absurd (not-suc-le-zero h)
  getD_map_from k (x ∷ xs) zero d e h = rw (add-zero k)
  getD_map_from k (x ∷ xs) (suc m) d e h = rw (add-suc k m, ← (suc-add k m)) (getD_map_from (suc k) xs m d e (le_of_suc-le-suc h))

module _ {ℓ} {A : Type ℓ} where
  pub map-from_id : (f : ℕ → A → A) (k : ℕ) (xs : List A) → ((m : ℕ) (x : A) → k ≤ m → m < k + length xs → f m x ≡ x) → map_from f k xs ≡ xs
  map-from_id f k [] h = refl
  map-from_id f k (x ∷ xs) h =
      let one : f k x ≡ x = h k x (le_refl k) (omega arith) in
      let more : map_from f (suc k) xs ≡ xs = map-from_id f (suc k) xs (λ m y a b. h m y (omega arith) (omega arith)) in
      λ i. one i ∷ more i

  pub modify_seam : (g : A → A) (xs : List A) (y : A) (ys : List A) (j : ℕ) → length xs ≡ j → modify j g (xs ++ y ∷ ys) ≡ xs ++ g y ∷ ys
  modify_seam g xs y ys j e = subst (λ (n : ℕ). modify n g (xs ++ y ∷ ys) ≡ xs ++ g y ∷ ys) e (seam xs)
    where
      seam : (xs : List A) → modify (length xs) g (xs ++ y ∷ ys) ≡ xs ++ g y ∷ ys
      seam [] = refl
      seam (x ∷ xs) = ap {B = List A} (λ r. x ∷ r) (seam xs)

  pub modify_same : (f g : A → A) (d : A) (j : ℕ) (xs : List A) → f (get_or xs j d) ≡ g (get_or xs j d) → modify j f xs ≡ modify j g xs
  modify_same f g d j [] e = refl
  modify_same f g d zero (x ∷ xs) e = ap {B = List A} (λ y. y ∷ xs) e
  modify_same f g d (suc j) (x ∷ xs) e = ap {B = List A} (λ r. x ∷ r) (modify_same f g d j xs e)
