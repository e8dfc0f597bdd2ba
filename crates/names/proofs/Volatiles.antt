-- The families that a call overwrites, by number: the constant lists have the names of the definition's lists, and a text has the number of
-- its name. Assumes nothing.
use Prim.Native.Nat.{ℕ, ◌+◌, ◌<◌}
use mathlib.Core.Path.{◌≡◌, refl, sym, ap, ◌∙◌}
use mathlib.Core.Bool.{Bool, true, false}
use mathlib.Core.List.{List, [], ◌∷◌, ◌++◌, map}
use mathlib.Core.Option.{Option, none, some}
use native.Mathlib.Decide.{ℕ_discrete}
use mathlib.Core.Logic.{by_cases}
use lib.Dec.{eqb, ltb}
use lib.ListN.{get_or}
use lib.Seq.{get_or-append-add}
use borrow.Author.Tests.{ne_eqb, ltb-true}
use Rattle.std.specs.List.{list_any}
use Rattle.reference.specs.Control.{◌and◌, when◌then◌else◌, let_some◌else◌then◌}
use Rattle.reference.specs.Lists.{any, position}
use Rattle.reference.specs.Text.{Text, ◌≟◌, has}
use Rattle.reference.specs.Names.{volatile_of}
use Rattle.laws.proofs.Scans.{or_false, any-map, any_append}
use Rattle.laws.proofs.Std.{eqb_turn, contains-std}
use Rattle.names.specs.Families.{ROWS, row_name, is_row}
use Rattle.names.specs.Volatile.{NEW, name_numbered, number_of}
use Rattle.names.proofs.Searches.{all, any-agree, any_fails, none_at, position_none, position_at}
use Rattle.names.proofs.Texts.{same_true}
use Rattle.names.proofs.Same.{same_name, row_number}

-- ---- lists of numbers

abbrev known : ℕ → Bool
known k = ltb k 12

-- a list of numbers, and the list of their names
pub record Numbers (volatile : List Text) (numbers : List ℕ) : Type 0 where
  pub known_all : all known numbers ≡ true
  pub named : map name_numbered numbers ≡ volatile

module _ {volatile : List Text} {numbers : List ℕ} (h : Numbers volatile numbers) where
  by_name : (s : Text) → has volatile s ≡ any (λ k. name_numbered k ≟ s) numbers
  by_name s = ap (λ (l : List Text). has l s) (sym h.named) ∙ any-map (◌≟ s) name_numbered numbers

  pub by_number : (n : ℕ) → list_any (λ y. eqb y n) numbers ≡ has volatile (name_numbered n)
  by_number n =
      contains-std numbers n
      ∙ any-agree known (eqb n) (λ k. name_numbered k ≟ name_numbered n) numbers h.known_all (λ k e. sym (same_name k n (ltb-true k 12 e) ∙ eqb_turn k n))
      ∙ sym (by_name (name_numbered n))

module _ (c : ℕ) where
  pub volatile_0 : c ≡ 0 → Numbers (volatile_of c) (0 ∷ 2 ∷ 3 ∷ [])
  unfolding volatile_of when◌then◌else◌ ◌and◌
  volatile_0 e = record { known_all = refl; named = rw e }

  pub volatile_1 : c ≡ 1 → Numbers (volatile_of c) (0 ∷ 2 ∷ 3 ∷ 4 ∷ 5 ∷ 8 ∷ 9 ∷ 10 ∷ 11 ∷ [])
  unfolding volatile_of when◌then◌else◌ ◌and◌
  volatile_1 e = record { known_all = refl; named = rw e }

  pub volatile_2 : (c ≡ 0 → ⊥) → (c ≡ 1 → ⊥) → Numbers (volatile_of c) (0 ∷ 2 ∷ 3 ∷ 8 ∷ 9 ∷ 10 ∷ 11 ∷ [])
  unfolding volatile_of when◌then◌else◌ ◌and◌
  volatile_2 m n = record { known_all = refl; named = rw (ne_eqb c 0 m, ne_eqb c 1 n) }

-- ---- the number of a text

module _ (s : Text) where
  pub with_number : {i : ℕ} → some i ≡ position (◌≟ s) NEW → some (8 + i) ≡ number_of s
  unfolding number_of let_some◌else◌then◌
  with_number e = rw (sym e)

  pub no_number : none ≡ position (◌≟ s) NEW → none ≡ number_of s
  unfolding number_of let_some◌else◌then◌
  no_number e = rw (sym e)

-- whether the list has the name of the number that a text has
abbrev pub number_in : List Text → Text → Bool
number_in volatile s = let_some (number_of s) else false then λ n. has volatile (name_numbered n)

module _ (s : Text) (other : is_row s ≡ false) where
  -- a text with a number has that number's name
  named_new : {i : ℕ} → position (◌≟ s) NEW ≡ some i → name_numbered (8 + i) ≡ s
  named_new {i} e =
      let f : (i < 4) × ((get_or NEW i [] ≟ s) ≡ true) = position_at (◌≟ s) NEW [] e in
      get_or-append-add ROWS NEW i [] ∙ same_true (get_or NEW i []) s f.1

  -- a text with no number is no name of a list
  unnamed_new : position (◌≟ s) NEW ≡ none → (k : ℕ) → k < 12 → (name_numbered k ≟ s) ≡ false
  unfolding is_row
  unnamed_new e k h = none_at (◌≟ s) (ROWS ++ NEW) [] k (any_append (◌≟ s) ROWS NEW ∙ or_false _ other ∙ position_none (◌≟ s) NEW e) h

  new_overwritten : {volatile : List Text} {numbers : List ℕ} → Numbers volatile numbers → number_in volatile s ≡ has volatile s
  unfolding number_of let_some◌else◌then◌
  new_overwritten {volatile} {numbers} h = step (position (◌≟ s) NEW) refl
    where
      step : (o : Option ℕ) → position (◌≟ s) NEW ≡ o → number_in volatile s ≡ has volatile s
      step (some i) e = rw e (ap (has volatile) (named_new e))
      step none e = rw e (sym (by_name h s ∙ any_fails known (λ k. name_numbered k ≟ s) numbers h.known_all (λ k f. unnamed_new e k (ltb-true k 12 f))))

-- ---- what `overwritten` answers of a family: a row, and a text that is no row's

module _ (c : ℕ) where
  pub row_overwritten : (r : ℕ) → r < 8 → has (volatile_of c) (name_numbered r) ≡ has (volatile_of c) (row_name r)
  row_overwritten r h = ap (has (volatile_of c)) (row_number r h)

  pub text_overwritten : (s : Text) → is_row s ≡ false → number_in (volatile_of c) s ≡ has (volatile_of c) s
  text_overwritten s other =
      by_cases (ℕ_discrete c 0) (λ e. new_overwritten s other (volatile_0 c e))
      (λ m. by_cases (ℕ_discrete c 1) (λ e. new_overwritten s other (volatile_1 c e)) (λ n. new_overwritten s other (volatile_2 c m n)))
