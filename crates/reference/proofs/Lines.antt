-- A listing one of whose lines is changed in place or taken out: its sums, its pairs of address and indent, and its labels. Assumes nothing.
use Prim.Native.Nat.{ℕ, zero, suc, ◌+◌, ◌<◌}
use native.Mathlib.Omega.{arith}
use native.Mathlib.Nat.{not-suc-le-zero, le_of_suc-le-suc}
use mathlib.Core.Path.{◌≡◌, refl, ap}
use mathlib.Core.Bool.{Bool, true, false}
use mathlib.Core.List.Sublistᴰ
use mathlib.Core.List.{List, [], ◌∷◌, nil≢cons, Sublistᴰ}
use lib.ListN.{length, drop}
use Rattle.reference.specs.Control.{when◌then◌else◌}
use Rattle.reference.specs.Lists.{remove, modify}
use Rattle.reference.specs.Listing.{Line, Listing, blank, ◌at◌}
use Rattle.reference.specs.Shapes.{is_label}
use Rattle.reference.specs.Claim.{sum, pair_of, pairs_of, label_lines}
use Rattle.reference.proofs.Cases.{by-if}

-- ---- sums and elements

module _ (F : Line → ℕ) where
  pub sum-remove : F blank ≡ 0 → (i : ℕ) (lines : Listing) → sum F (remove i lines) + F (lines at i) ≡ sum F lines
  sum-remove h i [] = omega (arith, h)
  sum-remove h zero (l ∷ ls) = omega arith
  sum-remove h (suc i) (l ∷ ls) = omega (arith, sum-remove h i ls)

  pub sum-modify : (g : Line → Line) (j : ℕ) (lines : Listing) → j < length lines
      → sum F (modify j g lines) + F (lines at j) ≡ sum F lines + F (g (lines at j))
  sum-modify g j [] h = absurd (not-suc-le-zero h)
  sum-modify g zero (l ∷ ls) h = omega arith
  sum-modify g (suc j) (l ∷ ls) h = omega (arith, sum-modify g j ls (le_of_suc-le-suc h))

pub at_modify : (g : Line → Line) (i j : ℕ) (lines : Listing) → (i ≡ j → ⊥) → modify j g lines at i ≡ lines at i
at_modify g i j [] h = refl
at_modify g zero zero (l ∷ ls) h = absurd (h refl)
at_modify g zero (suc j) (l ∷ ls) h = refl
at_modify g (suc i) zero (l ∷ ls) h = refl
at_modify g (suc i) (suc j) (l ∷ ls) h = at_modify g i j ls (λ e. h (ap suc e))

module _ {A : Type 0} where
  pub length-modify : (g : A → A) (j : ℕ) (xs : List A) → length (modify j g xs) ≡ length xs
  length-modify g j [] = refl
  length-modify g zero (x ∷ xs) = refl
  length-modify g (suc j) (x ∷ xs) = ap suc (length-modify g j xs)

  pub length-remove : (i : ℕ) (xs : List A) → i < length xs → suc (length (remove i xs)) ≡ length xs
  length-remove i [] h = absurd (not-suc-le-zero h)
  length-remove zero (x ∷ xs) h = refl
  length-remove (suc i) (x ∷ xs) h = ap suc (length-remove i xs (le_of_suc-le-suc h))

-- the line that the rest of a listing begins with
pub drop-step : (j : ℕ) (lines : Listing) (l : Line) (rest : Listing) → drop j lines ≡ l ∷ rest
    → (lines at j ≡ l) × (drop (suc j) lines ≡ rest) × (j < length lines)
drop-step zero [] l rest e = absurd (nil≢cons e)
drop-step zero (x ∷ xs) l rest e = (cc, cc, omega arith)
drop-step (suc j) [] l rest e = absurd (nil≢cons e)
drop-step (suc j) (x ∷ xs) l rest e = let h = drop-step j xs l rest e in (h.0, h.1, omega (arith, h.2))

-- ---- pairs_of

pub places_modify : (g : Line → Line) (j : ℕ) (lines : Listing) → pair_of (g (lines at j)) ≡ pair_of (lines at j) → pairs_of (modify j g lines) ≡ pairs_of lines
places_modify g j [] h = refl
places_modify g zero (l ∷ ls) h = λ k. h k ∷ pairs_of ls
places_modify g (suc j) (l ∷ ls) h = λ k. pair_of l ∷ places_modify g j ls h k

pub places_remove : (i : ℕ) (lines : Listing) → Sublistᴰ (pairs_of (remove i lines)) (pairs_of lines)
places_remove i [] = Sublistᴰ.slnil
places_remove zero (l ∷ ls) = Sublistᴰ.cons (Sublistᴰ.refl _)
places_remove (suc i) (l ∷ ls) = Sublistᴰ.cons-cons refl (places_remove i ls)

-- ---- labels

labelled : (l : Line) (ls : Listing) → is_label l ≡ true → label_lines (l ∷ ls) ≡ l ∷ label_lines ls
unfolding label_lines when◌then◌else◌
labelled l ls e = rw (e, when◌then◌else◌)

unlabelled : (l : Line) (ls : Listing) → is_label l ≡ false → label_lines (l ∷ ls) ≡ label_lines ls
unfolding label_lines when◌then◌else◌
unlabelled l ls e = rw (e, when◌then◌else◌)

same_labels : (l : Line) (xs ys : Listing) → Sublistᴰ (label_lines xs) (label_lines ys) → Sublistᴰ (label_lines (l ∷ xs)) (label_lines (l ∷ ys))
same_labels l xs ys s = go (is_label l) refl
  where
    go : (b : Bool) → is_label l ≡ b → Sublistᴰ (label_lines (l ∷ xs)) (label_lines (l ∷ ys))
    go true e = rw (labelled l xs e, labelled l ys e) (Sublistᴰ.cons-cons refl s)
    go false e = rw (unlabelled l xs e, unlabelled l ys e) s

-- whatever a line becomes that is no label, the labels stay
pub labels_modify : (g : Line → Line) (j : ℕ) (lines : Listing) → is_label (lines at j) ≡ false
    → Sublistᴰ (label_lines lines) (label_lines (modify j g lines))
unfolding label_lines
labels_modify g j [] h = Sublistᴰ.refl _
labels_modify g zero (l ∷ ls) h =
    rw (unlabelled l ls h)
    (by-if (λ (r : Listing). Sublistᴰ (label_lines ls) r) (λ e. Sublistᴰ.cons (Sublistᴰ.refl _)) (λ e. Sublistᴰ.refl _))
labels_modify g (suc j) (l ∷ ls) h = same_labels l ls (modify j g ls) (labels_modify g j ls h)

pub labels_remove : (i : ℕ) (lines : Listing) → is_label (lines at i) ≡ false → Sublistᴰ (label_lines lines) (label_lines (remove i lines))
labels_remove i [] h = Sublistᴰ.refl _
labels_remove zero (l ∷ ls) h = rw (unlabelled l ls h) (Sublistᴰ.refl _)
labels_remove (suc i) (l ∷ ls) h = same_labels l ls (remove i ls) (labels_remove i ls h)

pub labels_sublist : (lines : Listing) → Sublistᴰ (label_lines lines) lines
unfolding label_lines
labels_sublist [] = Sublistᴰ.slnil
labels_sublist (l ∷ ls) =
    by-if (λ (r : Listing). Sublistᴰ r (l ∷ ls)) (λ e. Sublistᴰ.cons-cons refl (labels_sublist ls)) (λ e. Sublistᴰ.cons (labels_sublist ls))
