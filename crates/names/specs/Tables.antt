-- Rows of fixed-width names, and what a search of one answers. Assumes nothing.
use Rattle.std.specs.Prelude.{ℕ, ◌<◌, ◌≡◌, Option, IfSome, List, map, eqb, get_or, take}
use Rattle.reference.specs.Control.{when◌then◌else◌}
use Rattle.reference.specs.Lists.{position}
use Rattle.reference.specs.Options.{option_of}
use Rattle.reference.specs.Text.{Text, ◌≟◌}

-- three bytes, the last a 0 where the name has two
unfoldable pub unpadded : Text → Text
unpadded name = when eqb (get_or name 2 0) 0 then take 2 name else name

-- r is the place of s among the names of a row of four
pub record Column (row : List Text) (s : Text) (r : Option ℕ) : Type 0 where
  pub within : IfSome r (λ i. i < 4)
  pub is : option_of r ≡ position (◌≟ s) (map unpadded row)
