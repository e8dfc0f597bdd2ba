-- Tests: the definitions' `and`, `or`, `not` and `when` where a part is known, and as a caller has them; any, count and position over
-- joined and mapped lists; where a text starts and ends. Assumes nothing.
use Prim.Native.Nat.{ℕ, suc, ◌+◌, ◌-◌, ◌≤◌, ◌<◌}
use native.Mathlib.Omega.{arith}
use mathlib.Core.Path.{◌≡◌, refl, sym, ap, ◌∙◌}
use mathlib.Core.Logic.{by_cases}
use native.Mathlib.Decide.{dec_le, dec_lt}
use mathlib.Core.Bool.{Bool, true, false, false≢true, not as flip}
use mathlib.Core.List.{List, [], ◌∷◌, ◌++◌, map}
use mathlib.Core.Option.{Option, none, some}
use lib.Dec.{eqb, ltb}
use lib.ListN.{length, take, drop}
use borrow.Author.Tests.{lt-ltb, le-ltb, not-true, not-false}
use Rattle.reference.specs.Control.{not, ◌and◌, ◌or◌, when◌then◌else◌, let_some◌else◌then◌}
use Rattle.reference.specs.Lists.{any, count, position, is_empty}
use Rattle.reference.specs.Text.{◌≟◌, starts_with, ends_with}

-- ---- the tests, at a known value

pub or_true : {a : Bool} (b : Bool) → a ≡ true → (a or b) ≡ true
unfolding ◌or◌
or_true b e = rw e

pub or_false : {a : Bool} (b : Bool) → a ≡ false → (a or b) ≡ b
unfolding ◌or◌
or_false b e = rw e

pub and_true : {a : Bool} (b : Bool) → a ≡ true → (a and b) ≡ b
unfolding ◌and◌
and_true b e = rw e

pub and_false : {a : Bool} (b : Bool) → a ≡ false → (a and b) ≡ false
unfolding ◌and◌
and_false b e = rw e

pub and_last : (a : Bool) → (a and false) ≡ false
unfolding ◌and◌
and_last true = refl
and_last false = refl

pub and_kept : (a : Bool) → (a and true) ≡ a
unfolding ◌and◌
and_kept true = refl
and_kept false = refl

pub or_last : (a : Bool) → (a or false) ≡ a
unfolding ◌or◌
or_last true = refl
or_last false = refl

pub if-true {ℓ} : {A : Type ℓ} {a : Bool} (x y : A) → a ≡ true → (when a then x else y) ≡ x
unfolding when◌then◌else◌
if-true x y e = rw e

pub if-false {ℓ} : {A : Type ℓ} {a : Bool} (x y : A) → a ≡ false → (when a then x else y) ≡ y
unfolding when◌then◌else◌
if-false x y e = rw e

-- the same for what a function returns that tests in the definition's order
pub if_here {ℓ} : {A : Type ℓ} {a : Bool} {x r : A} (y : A) → a ≡ true → r ≡ x → r ≡ (when a then x else y)
if_here y e f = f ∙ sym (if-true _ y e)

pub if-there {ℓ} : {A : Type ℓ} {a : Bool} {y r : A} (x : A) → a ≡ false → r ≡ y → r ≡ (when a then x else y)
if-there x e f = f ∙ sym (if-false x _ e)

-- the tests as a caller has them: x is what a call answered of a
pub or_first : {x a : Bool} (b : Bool) → x ≡ a → x ≡ true → x ≡ (a or b)
unfolding ◌or◌
or_first b e f = rw (sym e ∙ f) f

pub or_here : {x a : Bool} (b : Bool) → x ≡ a → x ≡ true → true ≡ (a or b)
unfolding ◌or◌
or_here b e f = rw (sym e ∙ f)

pub or_second : {x y a b : Bool} → x ≡ a → x ≡ false → y ≡ b → y ≡ (a or b)
unfolding ◌or◌
or_second e f g = rw (sym e ∙ f) g

pub or_only : {x a : Bool} → x ≡ a → x ≡ (a or false)
or_only {a = a} e = e ∙ sym (or_last a)

pub and_first : {x a : Bool} (b : Bool) → x ≡ a → x ≡ false → x ≡ (a and b)
unfolding ◌and◌
and_first b e f = rw (sym e ∙ f) f

pub and_here : {x a : Bool} (b : Bool) → x ≡ a → x ≡ false → false ≡ (a and b)
unfolding ◌and◌
and_here b e f = rw (sym e ∙ f)

pub and_second : {x y a b : Bool} → x ≡ a → x ≡ true → y ≡ b → y ≡ (a and b)
unfolding ◌and◌
and_second e f g = rw (sym e ∙ f) g

-- and where the definition negates what the call answered
pub not_same : {x a : Bool} → x ≡ a → flip x ≡ not a
unfolding not
not_same {a = true} e = rw e
not_same {a = false} e = rw e

pub or_not_here : {x a : Bool} (b : Bool) → x ≡ a → x ≡ false → true ≡ (not a or b)
unfolding not ◌or◌
or_not_here b e f = rw (sym e ∙ f)

pub or_not_second : {x y a b : Bool} → x ≡ a → x ≡ true → y ≡ b → y ≡ (not a or b)
unfolding not ◌or◌
or_not_second e f g = rw (sym e ∙ f) g

pub and_not_here : {x a : Bool} (b : Bool) → x ≡ a → x ≡ true → false ≡ (not a and b)
unfolding not ◌and◌
and_not_here b e f = rw (sym e ∙ f)

pub and_not_second : {x y a b : Bool} → x ≡ a → x ≡ false → y ≡ b → y ≡ (not a and b)
unfolding not ◌and◌
and_not_second e f g = rw (sym e ∙ f) g

-- `search (rules, tests) depth 8` proves what a function returns that tests in the definition's order and returns at each test (`if is_a(s) { return true; }`):
-- four tests or fewer. In one expression it finds two (`a(s) || b(s)`).
pub ruleset tests = (not-true, not-false, or_first, or_here, or_second, or_only, and_first, and_here, and_second, not_same, or_not_here, or_not_second, and_not_here, and_not_second)

-- by what a test says
pub by_test : {X : Type 0} (b : Bool) → (b ≡ true → X) → (b ≡ false → X) → X
by_test true f g = f refl
by_test false f g = g refl

pub ltb-suc : (m n : ℕ) → ltb m n ≡ ltb (suc m) (suc n)
ltb-suc m n =
    by_cases (dec_lt m n) (λ h. lt-ltb m n h ∙ sym (lt-ltb (suc m) (suc n) (omega arith)))
    (λ h. le-ltb m n (omega arith) ∙ sym (le-ltb (suc m) (suc n) (omega arith)))

-- ---- any, count, position

-- what a search from i on finds, counted from the beginning
unfoldable pub from : ℕ → Option ℕ → Option ℕ
from i o = let_some o else none then λ k. some (i + k)

module _ {ℓ} {A : Type ℓ} (p : A → Bool) where
  pub any_append : (s t : List A) → any p (s ++ t) ≡ (any p s or any p t)
  unfolding ◌or◌
  any_append [] t = refl
  any_append (x ∷ xs) t = ap (λ (r : Bool). p x or r) (any_append xs t) ∙ regroup (p x)
    where
      regroup : (b : Bool) → (b or (any p xs or any p t)) ≡ ((b or any p xs) or any p t)
      regroup true = refl
      regroup false = refl

  -- the same over what words mean
  module _ {κ} {B : Type κ} (f : B → A) where
    pub any-map : (s : List B) → any p (map f s) ≡ any (λ w. p (f w)) s
    any-map [] = refl
    any-map (x ∷ xs) = rw (any-map xs)

    pub count_map : (s : List B) → count p (map f s) ≡ count (λ w. p (f w)) s
    count_map [] = refl
    count_map (x ∷ xs) = rw (count_map xs)

    pub position-map : (s : List B) → position p (map f s) ≡ position (λ w. p (f w)) s
    position-map [] = refl
    position-map (x ∷ xs) = rw (position-map xs)

-- ---- texts

pub empty_is : (s : List ℕ) → is_empty s ≡ true → s ≡ []
empty_is [] e = refl
empty_is (x ∷ xs) e = absurd (false≢true e)

pub same_lengths : (a b : List ℕ) → (length a ≡ length b → ⊥) → (a ≟ b) ≡ false
unfolding ◌and◌
same_lengths [] [] n = absurd (n refl)
same_lengths [] (y ∷ ys) n = refl
same_lengths (x ∷ xs) [] n = refl
same_lengths (x ∷ xs) (y ∷ ys) n = rw (same_lengths xs ys (λ e. n (ap suc e))) (and_last (eqb x y))

pub starts_take : (s t : List ℕ) → length t ≤ length s → starts_with s t ≡ (take (length t) s ≟ t)
starts_take [] [] h = refl
starts_take (x ∷ xs) [] h = refl
starts_take [] (y ∷ ys) h = absurd (omega arith)
starts_take (x ∷ xs) (y ∷ ys) h = rw (starts_take xs ys (omega arith))

pub starts_short : (s t : List ℕ) → length s < length t → starts_with s t ≡ false
unfolding ◌and◌
starts_short s [] h = absurd (omega arith)
starts_short [] (y ∷ ys) h = refl
starts_short (x ∷ xs) (y ∷ ys) h = rw (starts_short xs ys (omega arith)) (and_last (eqb x y))

pub ends-short : (s t : List ℕ) → length s < length t → ends_with s t ≡ false
ends-short [] [] h = absurd (omega arith)
ends-short [] (y ∷ ys) h = refl
ends-short (x ∷ xs) t h = or_false _ (same_lengths (x ∷ xs) t (λ e. omega arith)) ∙ ends-short xs t (omega arith)

pub ends-drop : (s t : List ℕ) → length t ≤ length s → ends_with s t ≡ (drop (length s - length t) s ≟ t)
ends-drop [] [] h = refl
ends-drop [] (y ∷ ys) h = absurd (omega arith)
ends-drop (x ∷ xs) t h =
    by_cases (dec_le (length t) (length xs))
    (λ k.
    let e : suc (length xs) - length t ≡ suc (length xs - length t) = omega arith in
    or_false _ (same_lengths (x ∷ xs) t (λ e. omega arith)) ∙ ends-drop xs t k ∙ rw e refl)
    (λ k.
    let e : suc (length xs) - length t ≡ 0 = omega arith in
    rw (ends-short xs t (omega arith), e) (or_last ((x ∷ xs) ≟ t)))
