-- Equal texts, and texts among others. Assumes nothing.
use mathlib.Core.Path.{◌≡◌, refl, sym, ap, ◌∙◌}
use mathlib.Core.Bool.{Bool, true, false, false≢true, true≢false}
use mathlib.Core.List.{List, [], ◌∷◌}
use native.Mathlib.Omega.{arith}
use lib.ListN.{length, get_or}
use borrow.Author.Tests.{eq-eqb, eqb-true}
use Rattle.reference.specs.Control.{◌and◌, ◌or◌}
use Rattle.reference.specs.Text.{Text, ◌≟◌, has}
use Rattle.reference.proofs.Cases.{both, fails}
use Rattle.names.proofs.Searches.{all}

pub same_true : (a b : Text) → (a ≟ b) ≡ true → a ≡ b
same_true [] [] e = refl
same_true [] (y ∷ ys) e = absurd (false≢true e)
same_true (x ∷ xs) [] e = absurd (false≢true e)
same_true (x ∷ xs) (y ∷ ys) e = let p : x ≡ y = eqb-true x y (both e).0 in let q : xs ≡ ys = same_true xs ys (both e).1 in cc

pub same_refl : (a : Text) → (a ≟ a) ≡ true
unfolding ◌and◌
same_refl [] = refl
same_refl (x ∷ xs) = rw (eq-eqb x x refl, same_refl xs)

pub same_swap : (a b : Text) → (a ≟ b) ≡ false → (b ≟ a) ≡ false
same_swap a b e = fails (λ f. true≢false (sym (same_refl b) ∙ ap (λ (l : Text). l ≟ b) (same_true b a f) ∙ e))

pub empty : (l : Text) → length l ≡ 0 → l ≡ []
empty [] e = refl
empty (x ∷ l) e = absurd (omega arith)

pub single : (l : Text) → length l ≡ 1 → l ≡ get_or l 0 0 ∷ []
single [] e = absurd (omega arith)
single (x ∷ l) e = ap (λ (t : Text). x ∷ t) (empty l (omega arith))

-- what every text of a list has, a text among them has
pub has_all : (q : Text → Bool) (l : List Text) (t : Text) → all q l ≡ true → has l t ≡ true → q t ≡ true
unfolding ◌or◌
has_all q [] t e h = absurd (false≢true h)
has_all q (x ∷ xs) t e h = step (x ≟ t) refl h (has_all q xs t (both e).1)
  where
    step : (b : Bool) → (x ≟ t) ≡ b → (b or has xs t) ≡ true → (has xs t ≡ true → q t ≡ true) → q t ≡ true
    step true f h k = ap q (sym (same_true x t f)) ∙ (both e).0
    step false f h k = k h
