-- A listing built line after line, without the line i: where the loop begins, each turn, the line that is left out, and the end.
-- Assumes nothing.
use Prim.Native.Nat.{ℕ, zero, suc, ◌+◌, ◌≤◌, ◌<◌}
use native.Mathlib.Omega.{arith}
use native.Mathlib.Nat.{zero-add, not-suc-le-zero, le_of_suc-le-suc}
use native.Mathlib.Numerals.{add-one}
use mathlib.Core.Path.{◌≡◌, refl, sym, ap, ◌∙◌, subst}
use mathlib.Core.List.{List, [], ◌∷◌, ◌++◌}
use lib.ListN.{length, get_or, take}
use lib.Seq.{take-suc, take_all, length-take-le}
use Rattle.reference.specs.Lists.{remove}
use Rattle.reference.specs.Listing.{Listing}
use Rattle.reference.specs.Rules.{Rules}
use Rattle.joining.specs.Plan.{Plan, map_from, acted_line, built, act}
use Rattle.joining.proofs.Indexed.{length-map-from, map-from_append}

module _ {ℓ} {A : Type ℓ} where
  remove_past : (i : ℕ) (xs : List A) → length xs ≤ i → remove i xs ≡ xs
  remove_past i [] h = refl
  remove_past zero (x ∷ xs) h = absurd (not-suc-le-zero h)
  remove_past (suc i) (x ∷ xs) h = ap {B = List A} (λ r. x ∷ r) (remove_past i xs (le_of_suc-le-suc h))

  remove-last : (i : ℕ) (xs : List A) (y : A) → length xs ≡ i → remove i (xs ++ (y ∷ [])) ≡ xs
  remove-last i [] y e = subst (λ (n : ℕ). remove n (y ∷ []) ≡ []) e refl
  remove-last zero (x ∷ xs) y e = absurd (omega arith)
  remove-last (suc i) (x ∷ xs) y e = ap {B = List A} (λ r. x ∷ r) (remove-last i xs y (omega arith))

  remove_snoc : (i : ℕ) (xs : List A) (y : A) → (length xs ≡ i → ⊥) → remove i (xs ++ (y ∷ [])) ≡ remove i xs ++ (y ∷ [])
  remove_snoc zero [] y h = absurd (h refl)
  remove_snoc (suc i) [] y h = refl
  remove_snoc zero (x ∷ xs) y h = refl
  remove_snoc (suc i) (x ∷ xs) y h = ap {B = List A} (λ r. x ∷ r) (remove_snoc i xs y (λ e. h (ap suc e)))

module _ {ℓ κ} {A : Type ℓ} {B : Type κ} (f : ℕ → A → B) (i : ℕ) (xs : List A) where
  pub built_begin : built f i xs 0 ≡ []
  unfolding built
  built_begin = refl

  one_more : (k : ℕ) (d : A) → k < length xs → map_from f 0 (take (k + 1) xs) ≡ map_from f 0 (take k xs) ++ (f k (get_or xs k d) ∷ [])
  one_more k d h =
      let size : length (take k xs) ≡ k = length-take-le k xs (omega arith) in
      rw (add-one k, take-suc xs k d h) (map-from_append f 0 (take k xs) (get_or xs k d ∷ []) ∙ rw (size, zero-add k))

  front_length : (k : ℕ) → k ≤ length xs → length (map_from f 0 (take k xs)) ≡ k
  front_length k h = length-map-from f 0 (take k xs) ∙ length-take-le k xs h

  pub built_turn : (k : ℕ) (d : A) → k < length xs → (k ≡ i → ⊥) → built f i xs (k + 1) ≡ built f i xs k ++ (f k (get_or xs k d) ∷ [])
  unfolding built
  built_turn k d h n =
      ap (remove i) (one_more k d h) ∙ remove_snoc i (map_from f 0 (take k xs)) (f k (get_or xs k d)) (λ e. n (sym (front_length k (omega arith)) ∙ e))

  pub built-skip : i < length xs → (d : A) → built f i xs (i + 1) ≡ built f i xs i
  unfolding built
  built-skip h d =
      let size : length (map_from f 0 (take i xs)) ≡ i = front_length i (omega arith) in
      ap (remove i) (one_more i d h)
      ∙ remove-last i (map_from f 0 (take i xs)) (f i (get_or xs i d)) size
      ∙ sym (remove_past i (map_from f 0 (take i xs)) (omega arith))

  pub built_end : (k : ℕ) → length xs ≤ k → built f i xs k ≡ remove i (map_from f 0 xs)
  unfolding built
  built_end k h = rw (take_all k xs h)

pub act-built : (rules : Rules) (lines : Listing) (i : ℕ) (p : Plan) (k : ℕ) → length lines ≤ k
    → built (acted_line rules i p) i lines k ≡ act rules lines i p
unfolding act
act-built rules lines i p k h = built_end (acted_line rules i p) i lines k h
