-- Bridges: std's words on lists, which the contracts of its methods say, read as the definitions' own. Assumes nothing.
use Rattle.std.proofs.Common.{◌≡◌, ◌+◌, ◌-◌, ◌≤◌, ◌<◌, ◌&&◌, ◌||◌, ◌∷◌, ◌∙◌, ℕ, zero, suc, Bool, true, false, cond, eqb, List, [], length, take}
use Rattle.std.proofs.Common.{drop, slice_get, refl, sym, ap, arith, MatchOption, option_map, position, find, count_by, eqb-true, eq-eqb, ne_eqb}
use Rattle.std.proofs.Common as std
use Rattle.std.specs.List.{list_any, prefix_len}
use Rattle.std.specs.List as words
use lib.Pointwise.{pointwise}
use denote.Param.Members.{Mut}
use Rattle.std.specs.Iterator.{CallsWhile}
use Rattle.std.specs.Fn.{Called}
use Rattle.std.proofs.lemmas.Iterator.{YieldsList}
use Rattle.std.proofs.lemmas.Iterator.Search.{any_from_yields_List, position_from_yields_List}
use lib.ListN.{length-drop}
use native.Mathlib.Decide.{dec_le}
use mathlib.Core.Logic.{by_cases}
use Rattle.std.proofs.Math.Option.{Option, none, some}
use Rattle.std.proofs.lemmas.Bool.{eqb-false}
use Rattle.std.proofs.lemmas.List.{length-take}
use Rattle.std.proofs.lemmas.List.Recursion.{is_count_by}
use Rattle.std.proofs.lemmas.Iterator.Adapters.{position_from-zero}
use Rattle.reference.specs.Control.{not, ◌and◌, ◌or◌, when◌then◌else◌, let_some◌else◌then◌}
use Rattle.reference.specs.Lists as lists
use Rattle.reference.specs.Text.{◌≟◌, contains, has, trim_start}
use Rattle.reference.specs.Text as text
use Rattle.reference.specs.Options.{option_of}
use Rattle.laws.proofs.Scans.{starts_take, starts_short, ends-drop, ends-short, same_lengths}

-- ---- the tests

pub or-std : (a b : Bool) → (a || b) ≡ (a or b)
unfolding ◌or◌
or-std true b = refl
or-std false b = refl

pub and-std : (a b : Bool) → (a && b) ≡ (a and b)
unfolding ◌and◌
and-std true b = refl
and-std false b = refl

pub not-std : (a : Bool) → std.not a ≡ not a
unfolding not
not-std true = refl
not-std false = refl

pub cond-std {ℓ} : {A : Type ℓ} (c : Bool) (a b : A) → cond c a b ≡ (when c then a else b)
unfolding when◌then◌else◌
cond-std true a b = refl
cond-std false a b = refl

pub eqb_turn : (a b : ℕ) → eqb a b ≡ eqb b a
eqb_turn a b = turned (eqb a b) refl
  where
    turned : (t : Bool) → eqb a b ≡ t → t ≡ eqb b a
    turned true e = sym (eq-eqb b a (sym (eqb-true a b e)))
    turned false e = sym (ne_eqb b a (λ h. eqb-false a b e (sym h)))

-- ---- lists

from_zero : (o : Option ℕ) → (let_some o else none then λ k. some (0 + k)) ≡ o
unfolding let_some◌else◌then◌
from_zero none = refl
from_zero (some k) = ap some (omega arith)

module _ {A : Type 0} where
  -- two tests that agree at every element
  pub list_any_of : (p q : A → Bool) → ((x : A) → p x ≡ q x) → (xs : List A) → list_any p xs ≡ lists.any q xs
  list_any_of p q agree [] = refl
  list_any_of p q agree (x ∷ xs) =
      ap (λ b. b || list_any p xs) (agree x) ∙ ap (λ b. q x || b) (list_any_of p q agree xs) ∙ or-std (q x) (lists.any q xs)

  -- `contains`, `iter().any(p)`
  pub any-std : (p : A → Bool) (xs : List A) → list_any p xs ≡ lists.any p xs
  any-std p = list_any_of p p (λ x. refl)

  -- `iter().filter(p).count()`
  pub count-std : (p : A → Bool) (xs : List A) → count_by p xs ≡ lists.count p xs
  unfolding when◌then◌else◌
  count-std p xs = sym (is_count_by (lists.count p) p refl (λ x xs. either (p x) (lists.count p xs)) xs)
    where
      either : (b : Bool) (n : ℕ) → (when b then suc n else n) ≡ cond b (1 + n) n
      either true n = omega arith
      either false n = refl

  -- `iter().find(p)`
  pub find-std : (p : A → Bool) (xs : List A) → option_of (find p xs) ≡ lists.find p xs
  unfolding when◌then◌else◌
  find-std p [] = refl
  find-std p (x ∷ xs) = either (p x) (find-std p xs)
    where
      either : (b : Bool) → option_of (find p xs) ≡ lists.find p xs → option_of (cond b (std.Some x) (find p xs)) ≡ (when b then some x else lists.find p xs)
      either true e = refl
      either false e = e

  -- `get(i)`
  pub get-std : (xs : List A) (i : ℕ) → option_of (slice_get xs i) ≡ lists.get xs i
  get-std [] i = refl
  get-std (x ∷ xs) zero = refl
  get-std (x ∷ xs) (suc i) = get-std xs i

  -- `remove(i)`
  pub remove-std : (xs : List A) (i : ℕ) → words.remove xs i ≡ lists.remove i xs
  remove-std [] zero = refl
  remove-std [] (suc i) = refl
  remove-std (x ∷ xs) zero = refl
  remove-std (x ∷ xs) (suc i) = ap (λ l. x ∷ l) (remove-std xs i)

  -- the first place that passes, from i on
  shifted : (p : A → Bool) (i : ℕ) (xs : List A) → option_of (words.position_from p i xs) ≡ (let_some (lists.position p xs) else none then λ k. some (i + k))
  unfolding when◌then◌else◌ let_some◌else◌then◌
  shifted p i [] = refl
  shifted p i (x ∷ xs) = either (p x) (shifted p (i + 1) xs)
    where
      further : (o : Option ℕ) → (let_some o else none then λ k. some ((i + 1) + k)) ≡ (let_some (let_some o else none then λ k. some (suc k)) else none then λ k. some (i + k))
      further none = refl
      further (some k) = ap some (omega arith)

      either : (b : Bool) → option_of (words.position_from p (i + 1) xs) ≡ (let_some (lists.position p xs) else none then λ k. some ((i + 1) + k))
          → option_of (cond b (std.Some i) (words.position_from p (i + 1) xs))
          ≡ (let_some (when b then some 0 else (let_some (lists.position p xs) else none then λ k. some (suc k))) else none then λ k. some (i + k))
      either true e = ap some (omega arith)
      either false e = e ∙ further (lists.position p xs)

  -- `iter().position(p)`
  pub position-std : (p : A → Bool) (xs : List A) → option_of (position p xs) ≡ lists.position p xs
  position-std p xs = ap option_of (position_from-zero p xs) ∙ shifted p 0 xs ∙ from_zero (lists.position p xs)

-- ---- texts

-- `a == b`
pub same-std : (a b : List ℕ) → pointwise eqb a b ≡ (a ≟ b)
same-std [] [] = refl
same-std [] (y ∷ ys) = refl
same-std (x ∷ xs) [] = refl
same-std (x ∷ xs) (y ∷ ys) = ap (λ t. eqb x y && t) (same-std xs ys) ∙ and-std (eqb x y) (xs ≟ ys)

pub same_turn : (a b : List ℕ) → (a ≟ b) ≡ (b ≟ a)
same_turn [] [] = refl
same_turn [] (y ∷ ys) = refl
same_turn (x ∷ xs) [] = refl
same_turn (x ∷ xs) (y ∷ ys) = rw (eqb_turn x y, same_turn xs ys)

-- `contains(&b)` of one byte
pub contains-std : (s : List ℕ) (b : ℕ) → list_any (λ y. eqb y b) s ≡ contains s b
contains-std s b = list_any_of (λ y. eqb y b) (eqb b) (λ y. eqb_turn y b) s

-- `starts_with` and `ends_with`
pub starts-std : (s t : List ℕ) → words.starts_with eqb s t ≡ text.starts_with s t
starts-std s t = same-std t (take (length t) s) ∙ same_turn t (take (length t) s)
    ∙ by_cases (dec_le (length t) (length s)) (λ k. sym (starts_take s t k))
    (λ k. same_lengths (take (length t) s) t (λ e. omega (arith, length-take (length t) s)) ∙ sym (starts_short s t (omega arith)))

pub ends-std : (s t : List ℕ) → words.ends_with eqb s t ≡ text.ends_with s t
ends-std s t = same-std t (drop (length s - length t) s) ∙ same_turn t (drop (length s - length t) s)
    ∙ by_cases (dec_le (length t) (length s)) (λ k. sym (ends-drop s t k))
    (λ k. same_lengths (drop (length s - length t) s) t (λ e. omega (arith, length-drop (length s - length t) s)) ∙ sym (ends-short s t (omega arith)))

-- `strip_prefix(t)`
pub prefix-std : (s t : List ℕ) → pointwise eqb (take (length t) s) t ≡ text.starts_with s t
prefix-std s t = same-std (take (length t) s) t
    ∙ by_cases (dec_le (length t) (length s)) (λ k. sym (starts_take s t k))
    (λ k. same_lengths (take (length t) s) t (λ e. omega (arith, length-take (length t) s)) ∙ sym (starts_short s t (omega arith)))

-- ---- what is left behind a front of spaces

pub spaces-std : (s : List ℕ) → drop (prefix_len (λ b. eqb b 32) s) s ≡ trim_start s
unfolding when◌then◌else◌
spaces-std [] = refl
spaces-std (x ∷ xs) = either (eqb x 32) (spaces-std xs)
  where
    either : (b : Bool) → drop (prefix_len (λ b. eqb b 32) xs) xs ≡ trim_start xs → drop (cond b (1 + prefix_len (λ b. eqb b 32) xs) 0) (x ∷ xs) ≡ (when b then trim_start xs else x ∷ xs)
    either true e = let h : 1 + prefix_len (λ b. eqb b 32) xs ≡ suc (prefix_len (λ b. eqb b 32) xs) = omega arith in rw h e
    either false e = refl

-- ---- a chain that ends in `any`, `all`, `position` or `find`, whose closure computes a test
-- At `c.any`, over a slice: `any_by p _ _ c.any.ensures.ran (YieldsList-from_slice _ (search rules)) (λ x b q k. search rules)`.

module _ {S A B F : Type 0} {steps : S → std.Option A → S → Type 0} {v : A → B} {s : S} {xs : List B} (test : B → Bool) (u : S) (f : F) where
  module _ {g : Mut F (A × Unit {0}) Bool} where
    pub any_by : {r : Bool} → CallsWhile steps g false s f u (r ≡ false) (λ _ f' x. (r ≡ true) × ((h : F) × Called g f' (x, tt) true h))
        → YieldsList steps v s xs → ((x : A) (b : Bool) (q : F) → Called g f (x, tt) b q → (q ≡ f) × (b ≡ test (v x))) → r ≡ lists.any test xs
    any_by {r} d e k = any_from_yields_List test u f r d e k ∙ any-std test xs

    pub position_by : {r : std.Option ℕ} → CallsWhile steps g false s f u (r ≡ std.None) (λ xs f' x. (r ≡ std.Some (length xs)) × ((h : F) × Called g f' (x, tt) true h))
        → YieldsList steps v s xs → ((x : A) (b : Bool) (q : F) → Called g f (x, tt) b q → (q ≡ f) × (b ≡ test (v x))) → option_of r ≡ lists.position test xs
    position_by {r} d e k = ap option_of (position_from_yields_List test u f r d e k) ∙ position-std test xs

-- ---- the same from the definitions' side: `grind` meets the definitions' word in the goal, and gets std's, which the call ensures

module _ {A : Type 0} (p : A → Bool) (xs : List A) where
  pub any_is : lists.any p xs ≡ list_any p xs
  any_is = sym (any-std p xs)

  pub count_is : lists.count p xs ≡ count_by p xs
  count_is = sym (count-std p xs)

  pub find_is : lists.find p xs ≡ option_of (find p xs)
  find_is = sym (find-std p xs)

  pub position_is : lists.position p xs ≡ option_of (position p xs)
  position_is = sym (position-std p xs)

module _ {A : Type 0} (xs : List A) (i : ℕ) where
  pub get_is : lists.get xs i ≡ option_of (slice_get xs i)
  get_is = sym (get-std xs i)

  pub remove_is : lists.remove i xs ≡ words.remove xs i
  remove_is = sym (remove-std xs i)

module _ (s t : List ℕ) where
  pub same_is : (s ≟ t) ≡ pointwise eqb s t
  same_is = sym (same-std s t)

  pub starts_is : text.starts_with s t ≡ words.starts_with eqb s t
  starts_is = sym (starts-std s t)

  pub ends_is : text.ends_with s t ≡ words.ends_with eqb s t
  ends_is = sym (ends-std s t)

pub contains_is : (s : List ℕ) (b : ℕ) → contains s b ≡ list_any (λ y. eqb y b) s
contains_is s b = sym (contains-std s b)

pub or_is : (a b : Bool) → (a or b) ≡ (a || b)
or_is a b = sym (or-std a b)

pub and_is : (a b : Bool) → (a and b) ≡ (a && b)
and_is a b = sym (and-std a b)

pub not_is : (a : Bool) → not a ≡ std.not a
not_is a = sym (not-std a)

pub if_is : {A : Type 0} (c : Bool) (a b : A) → (when c then a else b) ≡ cond c a b
if_is c a b = sym (cond-std c a b)

-- `#![tactic(auto, using(laws::proofs::Std::words_of_std))]`, or `grind (arith, words_of_std)`
pub ruleset words_of_std = (any_is, count_is, find_is, position_is, get_is, remove_is, same_is, starts_is, ends_is, contains_is)

-- the tests alone
pub ruleset tests_of_std = (or_is, and_is, not_is, if_is)
