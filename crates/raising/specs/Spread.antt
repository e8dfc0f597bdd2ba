-- What a step puts on the lines that the value reaches, and the kinds that the lines get which it rewrites or cuts: `spread` of the
-- definitions in two parts. Assumes nothing.
use Rattle.std.specs.Prelude.{ℕ, ◌≡◌, Bool, true, false, List, ◌∷◌, eqb, ltb, length, get_or, filter, take}
use Rattle.std.specs.Prelude as std
use Rattle.reference.specs.Control.{not, ◌and◌, ◌or◌}
use Rattle.reference.specs.Lists.{any, is_empty}
use Rattle.reference.specs.Text.{Text}
use Rattle.reference.specs.Listing.{Listing}
use Rattle.reference.specs.Rules.{Rules, volatile}
use Rattle.cautions.specs.Kinds.{odd_form, still_read, handed_over, ◌∪◌, ◌given◌}
use Rattle.cautions.specs.Forms.{ways, is_dark, reached}
use Rattle.cautions.specs.Joins.{is_handed, put, dark_in, stale_in}
use Rattle.usefacts.specs.declared.parts.Before.{Before}

-- ---- the lines that a join rewrites

abbrev pub is_told : std.Option Before → Bool
is_told (std.Some b) = true
is_told std.None = false

-- line k is one of them
abbrev pub is_noted : List (std.Option Before) → ℕ → Bool
is_noted parts k = is_told (get_or parts k std.None)

-- `into` has those of these parts that are lines of the listing
abbrev pub Notes : Listing → List (std.Option Before) → List ℕ → Type 0
Notes lines parts into = (k : ℕ) → ltb k (length lines) ≡ true → any (eqb k) into ≡ is_noted parts k

-- ---- a step of line i, which rewrites the lines `into`

module _ (rules : Rules) (lines : Listing) (i : ℕ) (fam : Text) (into : List ℕ) where
  -- the lines that the value reaches, and the others of them
  abbrev pub far : List ℕ
  far = reached lines (ways lines) i fam (volatile rules)

  abbrev pub others : List ℕ
  others = filter (λ k. ltb k (length lines) and not (any (eqb k) (i ∷ into))) far

  abbrev pub dark : List ℕ
  dark = dark_in rules lines (ways lines) i fam far others

  abbrev pub stale : List ℕ
  stale = stale_in rules lines (ways lines) i fam far others

  -- the sets with those that it puts on these
  unfoldable pub marked : List ℕ → List ℕ
  marked sets = put odd_form dark 0 (put still_read stale 0 sets)

  -- the kinds of the lines that it rewrites
  unfoldable pub far_kinds : Bool → ℕ
  far_kinds again =
      odd_form given (not (is_empty dark) or is_dark lines (ways lines) i) ∪ still_read given (not (is_empty stale) or again)
      ∪ handed_over given is_handed rules lines fam far
