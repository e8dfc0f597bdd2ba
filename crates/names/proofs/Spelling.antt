-- Names that are no row's family; stack slots, high bytes and the whole of `family`. Assumes nothing.
use Prim.Native.Nat.{ℕ, ◌<◌}
use native.Mathlib.Omega.{arith}
use native.Mathlib.Nat.{le_refl}
use mathlib.Core.Path.{◌≡◌, refl, sym, ap, ◌∙◌}
use mathlib.Core.Bool.{Bool, true, false, false≢true}
use mathlib.Core.List.{List, [], ◌∷◌, ◌++◌}
use mathlib.Core.Option.{none, some}
use lib.Dec.{eqb, leb}
use lib.ListN.{length, get_or, get_or-map}
use lib.Seq.{take-length}
use borrow.Author.Tests.{eqb-true, leb-true}
use Rattle.std.proofs.Common as std
use Rattle.reference.specs.Control.{◌and◌, when◌then◌else◌, let_some◌else◌then◌}
use Rattle.reference.specs.Lists.{position}
use Rattle.reference.specs.Text.{Text, bytes, starts_with, ◌≟◌}
use Rattle.reference.specs.Names.{LEGACY, legacy, stack_slot, numbered, high_byte, family}
use Rattle.laws.proofs.Scans.{if-true, if-false, same_lengths}
use Rattle.reference.proofs.Cases.{both, fails}
use Rattle.names.specs.declared.families.Spelled.TheVariants.{Row, Front}
use Rattle.names.specs.Families.{ROWS, row_name, is_row, Spells, Lists}
use Rattle.names.proofs.Searches.{all, all-below, below_at, position_none, position_at, any_at}
use Rattle.names.proofs.Texts.{same_true, has_all}

-- ---- texts that are no row's family: each of these begins with r and a letter

letters : Text → Bool
letters t = eqb (get_or t 0 0) 114 and leb 97 (get_or t 1 0)

row-letters : (t : Text) → is_row t ≡ true → letters t ≡ true
unfolding is_row letters ◌and◌
row-letters t e = has_all letters ROWS t refl e

pub low_second : (t : Text) → get_or t 1 0 < 97 → is_row t ≡ false
unfolding letters
low_second t h = fails (λ e. omega (arith, leb-true 97 (get_or t 1 0) (both (row-letters t e)).1))

other-first : (t : Text) → (get_or t 0 0 ≡ 114 → ⊥) → is_row t ≡ false
unfolding letters
other-first t n = fails (λ e. n (eqb-true (get_or t 0 0) 114 (both (row-letters t e)).0))

-- ---- `var_`

module _ (s : Text) where
  pub slot : starts_with s (bytes "var_") ≡ true → Spells s (stack_slot s) (std.Some (Front (length s) 64))
  unfolding stack_slot
  slot e = record {
    is = ap (λ (l : Text). some (record { name = l; width = 64; lowest = 0 })) (take-length s) ∙ sym (if-true _ _ e);
    sound = (le_refl _, rw take-length (other-first s (λ r. omega (arith, first s e))));
  }
    where
      first : (s : Text) → starts_with s (bytes "var_") ≡ true → get_or s 0 0 ≡ 118
      first [] e = absurd (false≢true e)
      first (x ∷ s) e = eqb-true x 118 (both e).0

  pub no_slot : starts_with s (bytes "var_") ≡ false → Spells s (stack_slot s) std.None
  unfolding stack_slot
  no_slot e = record { is = sym (if-false _ _ e); sound = tt }

-- ---- ah, bh, ch, dh

abbrev pub HIGH : List Text
HIGH = bytes "ah" ∷ bytes "bh" ∷ bytes "ch" ∷ bytes "dh" ∷ []

high_name : Text → Text
high_name name = bytes "r" ++ (get_or name 0 0 ∷ []) ++ bytes "x"

-- the high byte at k is of the row k: one test of the whole row
high_row : (k : ℕ) → k < 4 → high_name (get_or HIGH k []) ≡ row_name k
unfolding high_name all-below ◌and◌
high_row k h = same_true (high_name (get_or HIGH k [])) (row_name k) (below_at 4 (λ k. high_name (get_or HIGH k []) ≟ row_name k) k refl h)

module _ (s : Text) where
  pub high : {k : ℕ} → position (◌≟ s) HIGH ≡ some k → Spells s (high_byte s) (std.Some (Row k 8 8))
  unfolding high_byte high_name
  high {k} e =
      let f : (k < 4) × ((get_or HIGH k [] ≟ s) ≡ true) = position_at (◌≟ s) HIGH [] e in
      let t : get_or HIGH k [] ≡ s = same_true (get_or HIGH k []) s f.1 in
      record {
        is = ap (λ (l : Text). some (record { name = l; width = 8; lowest = 8 })) (sym (high_row k f.0) ∙ ap high_name t) ∙ sym (if-true _ _ (any_at (◌≟ s) HIGH [] k f.0 f.1));
        sound = omega arith;
      }

  pub not_high : position (◌≟ s) HIGH ≡ none → high_byte s ≡ numbered s
  unfolding high_byte
  not_high e = if-false _ _ (position_none (◌≟ s) HIGH e)

  -- ---- the table first

  pub in_table : {r w : ℕ} → Lists LEGACY s (std.Some (record { row = r; width = w })) → Spells s (family s) (std.Some (Row r w 0))
  unfolding family let_some◌else◌then◌
  in_table {r} {w} h =
      let e : row_name r ≡ get_or (get_or LEGACY r []) 0 [] = get_or-map (λ (names : List Text). get_or names 0 []) LEGACY r [] in
      record { is = ap (λ (l : Text). some (record { name = l; width = w; lowest = 0 })) e ∙ rw (sym h.is); sound = h.inside }

  pub not_in-table : Lists LEGACY s std.None → family s ≡ high_byte s
  unfolding family let_some◌else◌then◌
  not_in-table h = rw (sym h.is)

  -- ---- a name of more than three bytes is in no table

  short : Text → Bool
  short t = leb (length t) 3

  module _ (h : 3 < length s) where
    long-position : (l : List Text) → all short l ≡ true → position (◌≟ s) l ≡ none
    unfolding short when◌then◌else◌ let_some◌else◌then◌
    long-position [] e = refl
    long-position (x ∷ l) e =
        let f : (x ≟ s) ≡ false = same_lengths x s (λ g. omega (arith, leb-true (length x) 3 (both e).0)) in
        rw (f, long-position l (both e).1)

    long-legacy : (table : List (List Text)) → all (all short) table ≡ true → legacy table s ≡ none
    unfolding legacy let_some◌else◌then◌
    long-legacy [] e = refl
    long-legacy (names ∷ table) e = rw (long-position names (both e).0) (long-legacy table (both e).1)

    pub long : family s ≡ numbered s
    unfolding family let_some◌else◌then◌ short ◌and◌
    long = rw (long-legacy LEGACY refl) (not_high (long-position HIGH refl))
