-- An operand REG=VALUE: a register and the value that it starts with, as an entry of the list that crate start takes (request M-107).
-- Assumes nothing.
use Rattle.std.specs.Prelude.{ℕ, suc, ◌+◌, ◌<◌, ◌≤◌, ◌≡◌, Bool, false, [], ◌∷◌, ◌++◌, eqb, ltb, length, take, drop}
use Rattle.std.proofs.Math.Option.{Option, none, some}
use Rattle.reference.specs.Control.{when◌then◌else◌, let_some◌else◌then◌}
use Rattle.reference.specs.Text.{Text, bytes, starts_with}
use Rattle.reference.specs.Tape.{to_le_bytes}
use Rattle.words.specs.Numerals.{integer_in}

-- where the first = stands; past the last byte, if there is none
unfoldable pub equals_at : Text → ℕ
equals_at [] = 0
equals_at (b ∷ bs) = let rest = equals_at bs in when eqb b 61 then 0 else suc rest

-- has a =, and does not begin as the path of a file
unfoldable pub is_entry : Text → Bool
is_entry w =
    when starts_with w (bytes ".") then false else when starts_with w (bytes "/") then false else ltb (equals_at w) (length w)

-- the value behind the =; none, if it is no value, or the name before the = is longer than its length byte can say
unfoldable pub entry_value : Text → Option ℕ
entry_value w =
    when ltb 255 (equals_at w) then none else when ltb (equals_at w) (length w) then integer_in (drop (equals_at w + 1) w) else none

-- "An entry is a length byte, the name, then the value in 8 bytes, little-endian"
unfoldable pub named_value : Text → ℕ → Text
named_value name v = (length name ∷ []) ++ name ++ to_le_bytes 8 v

unfoldable pub entry_bytes : Text → Text
entry_bytes w = let_some entry_value w else [] then λ v. named_value (take (equals_at w) w) v

-- the name and the value of an entry
pub record IsEntry (w name : Text) (v : ℕ) : Type 0 where
  pub value_is : entry_value w ≡ some v
  pub name_is : name ≡ take (equals_at w) w
  pub short : length name < 256
  pub within : length name ≤ length w
