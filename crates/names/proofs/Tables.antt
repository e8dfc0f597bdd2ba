-- A row of the table and the table, row by row. Assumes nothing.
use Rattle.std.proofs.Common.{◌≡◌, ℕ, suc, ◌+◌, ◌≤◌, ◌<◌, List, [], ◌∷◌, map, length, get_or, drop, sym, ap, ◌∙◌, arith, add-one, IfSome}
use Rattle.std.proofs.Common as std
use Rattle.std.proofs.Math.Option.{Option, none, some}
use Rattle.std.proofs.lemmas.List.{length-map}
use lib.ListN.{get_or-map, drop_of_length-le}
use lib.Seq.{drop-cons}
use Rattle.reference.specs.Control.{let_some◌else◌then◌}
use Rattle.reference.specs.Lists.{position}
use Rattle.reference.specs.Options.{option_of}
use Rattle.reference.specs.Text.{Text, ◌≟◌}
use Rattle.reference.specs.Names.{Fam, legacy}
use Rattle.laws.proofs.Scans.{position-map}
use Rattle.names.specs.Tables.{unpadded, Column}
use Rattle.names.specs.Families.{Lists}
use Rattle.names.proofs.Searches.{position_at}

-- ---- a place in a row

module _ (row : List Text) (s : Text) where
  abbrev pub place : Option ℕ
  place = position (◌≟ s) (map unpadded row)

  within : (r : std.Option ℕ) → length row ≡ 4 → option_of r ≡ place → IfSome r (λ i. i < 4)
  within std.None h e = tt
  within (std.Some i) h e = let w : length (map unpadded row) ≡ 4 = rw length-map h in omega (arith, (position_at (◌≟ s) (map unpadded row) [] (sym e)).0)

  -- what a search of the row as it lies answers
  pub column : (r : std.Option ℕ) → length row ≡ 4 → option_of r ≡ position (λ (name : Text). unpadded name ≟ s) row → Column row s r
  column r h e =
      let f : option_of r ≡ place = e ∙ sym (position-map (◌≟ s) unpadded row) in
      record { within = within r h f; is = f }

-- ---- a table, row by row

-- the widths of a row's names
abbrev pub WIDTHS : List ℕ
WIDTHS = 64 ∷ 32 ∷ 16 ∷ 8 ∷ []

module _ (padded : List (List Text)) (s : Text) where
  abbrev pub table : List (List Text)
  table = map (map unpadded) padded

  -- the search from row i on
  abbrev pub Listed-from : ℕ → Type 0
  Listed-from i = legacy table s ≡ legacy (drop i table) s

  module _ (i : ℕ) (h : i < length padded) (inv : Listed-from i) where
    inside-table : i < length table
    inside-table = rw length-map h

    row_here : get_or table i [] ≡ map unpadded (get_or padded i [])
    row_here = get_or-map (map unpadded) padded i []

    next : Option ℕ → Option Fam
    next o = let_some o else legacy (drop (suc i) table) s then λ k. some (record { name = get_or (get_or table i []) 0 []; width = get_or WIDTHS k 0; lowest = 0 })

    at_row : legacy table s ≡ next (position (◌≟ s) (map unpadded (get_or padded i [])))
    unfolding legacy next
    at_row = inv ∙ rw (drop-cons table i [] inside-table) (ap (λ (r : List Text). next (position (◌≟ s) r)) row_here)

    pub row_hit : {k w : ℕ} → position (◌≟ s) (map unpadded (get_or padded i [])) ≡ some k → w ≡ get_or WIDTHS k 0 → Lists table s (std.Some (record { row = i; width = w }))
    unfolding next let_some◌else◌then◌
    row_hit e f = record { is = sym (at_row ∙ rw (e, f)); inside = inside-table }

    pub row_miss : position (◌≟ s) (map unpadded (get_or padded i [])) ≡ none → Listed-from (i + 1)
    unfolding next let_some◌else◌then◌
    row_miss e = at_row ∙ rw (e, add-one)

  pub rows_end : {i : ℕ} → length padded ≤ i → Listed-from i → Lists table s std.None
  unfolding legacy
  rows_end {i} h inv = record { is = sym (inv ∙ rw (drop_of_length-le table {i = i} (rw length-map h))); inside = tt }
