-- Families by number: the rows of the table, then r8 to r11; a number from 12 on is no family's. Assumes nothing.
use Rattle.std.specs.Prelude.{ℕ, ◌+◌, List, [], ◌∷◌, ◌++◌, get_or}
use Rattle.std.proofs.Math.Option.{Option, none, some}
use Rattle.reference.specs.Control.{let_some◌else◌then◌}
use Rattle.reference.specs.Lists.{position}
use Rattle.reference.specs.Text.{Text, bytes, ◌≟◌}
use Rattle.names.specs.Families.{ROWS}

abbrev pub NEW : List Text
NEW = bytes "r8" ∷ bytes "r9" ∷ bytes "r10" ∷ bytes "r11" ∷ []

-- the family of a number; none has an empty name
abbrev pub name_numbered : ℕ → Text
name_numbered n = get_or (ROWS ++ NEW) n []

-- the number of a family that is no row's; only those of r8 to r11 have one
unfoldable pub number_of : Text → Option ℕ
number_of s = let_some (position (◌≟ s) NEW) else none then λ i. some (8 + i)
