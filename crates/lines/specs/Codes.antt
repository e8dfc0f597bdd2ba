-- The code of a name that begins at bit 0: its family and its width in one number, which a token word keeps so that they are found once.
-- 0 says nothing. Assumes nothing.
use Rattle.std.specs.Prelude.{ℕ, ◌+◌, ◌-◌, ◌*◌, ◌/◌, ◌%◌, ◌≤◌, ◌<◌, ◌≡◌, List, [], ◌∷◌, eqb, ltb, length, take, get_or}
use Rattle.std.proofs.Math.Option.{some}
use Rattle.reference.specs.Control.{when◌then◌else◌, let_some◌else◌then◌}
use Rattle.reference.specs.Lists.{position}
use Rattle.reference.specs.Text.{Text, ◌≟◌}
use Rattle.reference.specs.Names.{family}
use Rattle.names.specs.Families.{ROWS, row_name}
use Rattle.std.specs.Prelude as std

-- a number below 7 of a name: equal names have equal ones
unfoldable pub bucket : Text → ℕ
bucket s = when ltb (length s) 2 then 0 else (get_or s (length s - 1) 0 + 3 * get_or s (length s - 2) 0) % 7

-- a number below 15 of a family: its row, or 8 and the bucket of a name that is no row's
unfoldable pub family_number : Text → ℕ
family_number name = let_some (position (◌≟ name) ROWS) else 8 + bucket name then λ r. r

-- A code is four times one more than the family's number, and the place of the width.

abbrev pub WIDTHS : List ℕ
WIDTHS = 64 ∷ 32 ∷ 16 ∷ 8 ∷ []

unfoldable pub coded_width : ℕ → ℕ
coded_width c = get_or WIDTHS (c % 4) 0

-- the family that a code says of a text: a row's, the text itself, or the text without its last byte
unfoldable pub coded_name : ℕ → Text → Text
coded_name c s = when ltb c 36 then row_name (c / 4 - 1) else when eqb (c % 4) 0 then s else take (length s - 1) s

-- what the code says of the text is true
pub record Says (c : ℕ) (s : Text) : Type 0 where
  pub least : 4 ≤ c
  pub some_byte : 1 ≤ length s
  pub family_is : family s ≡ some (record { name = coded_name c s; width = coded_width c; lowest = 0 })
  pub number_is : c / 4 - 1 ≡ family_number (coded_name c s)

-- the answer of `code_of`: a code that it gives is true of the text
pub record Codes (s : Text) (o : std.Option ℕ) : Type 0 where
  pub small : (c : ℕ) → o ≡ std.Some c → c < 64
  pub true : (c : ℕ) → o ≡ std.Some c → Says c s

-- the answer of `place_of`
pub record Placed (width : ℕ) (o : std.Option ℕ) : Type 0 where
  pub small : (k : ℕ) → o ≡ std.Some k → k < 4
  pub is : (k : ℕ) → o ≡ std.Some k → width ≡ get_or WIDTHS k 0
