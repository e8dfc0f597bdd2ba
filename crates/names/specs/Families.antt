-- What the code's answers on families mean. Assumes nothing.
use Rattle.std.specs.Prelude.{ℕ, ◌≤◌, ◌<◌, ◌≡◌, Bool, false, List, [], map, length, get_or, take}
use Rattle.std.specs.Prelude as std
use Rattle.std.proofs.Math.Option.{Option, none, some}
use Rattle.reference.specs.Text.{Text, has}
use Rattle.reference.specs.Names.{Fam, LEGACY, legacy}
use Rattle.names.specs.declared.families.Spelled.{Spelled}
use Rattle.names.specs.declared.families.Spelled.TheVariants.{Row, Front}
use Rattle.names.specs.declared.families.Listed.{Listed}

-- the families of the table, by row
abbrev pub ROWS : List Text
ROWS = map (λ (names : List Text). get_or names 0 []) LEGACY

abbrev pub row_name : ℕ → Text
row_name r = get_or ROWS r []

-- whether a text is a row's family
unfoldable pub is_row : Text → Bool
is_row s = has ROWS s

abbrev pub spelled : Text → std.Option Spelled → Option Fam
spelled s (std.Some (Row r w l)) = some (record { name = row_name r; width = w; lowest = l })
spelled s (std.Some (Front n w)) = some (record { name = take n s; width = w; lowest = 0 })
spelled s std.None = none

-- a row is one of the table, a front is a part of the text and no row's family
abbrev pub Sound : Text → std.Option Spelled → Type 0
Sound s (std.Some (Row r w l)) = r < 8
Sound s (std.Some (Front n w)) = (n ≤ length s) × (is_row (take n s) ≡ false)
Sound s std.None = Unit

-- the answer r to the name s says what the definition o says
pub record Spells (s : Text) (o : Option Fam) (r : std.Option Spelled) : Type 0 where
  pub is : spelled s r ≡ o
  pub sound : Sound s r

-- ---- in a table

abbrev pub listed : List (List Text) → std.Option Listed → Option Fam
listed table (std.Some l) = some (record { name = get_or (get_or table l.row []) 0 []; width = l.width; lowest = 0 })
listed table std.None = none

abbrev pub In : List (List Text) → std.Option Listed → Type 0
In table (std.Some l) = l.row < length table
In table std.None = Unit

pub record Lists (table : List (List Text)) (s : Text) (r : std.Option Listed) : Type 0 where
  pub is : listed table r ≡ legacy table s
  pub inside : In table r
