-- A number's sign, and its text read by both editions. Assumes nothing.
use Rattle.std.specs.Prelude.{◌^◌, Bool, true, false, eqb, ltb, ℤ, pos, negsuc}
use Rattle.reference.specs.Control.{◌and◌, let_some◌else◌then◌}
use Rattle.reference.specs.Text.{Text, bytes, starts_with}
use Rattle.reference.specs.Numbers.{read_number}
use Rattle.cautions.specs.Values.{is_small}

abbrev pub is_below_zero : ℤ → Bool
is_below_zero (pos n) = false
is_below_zero (negsuc n) = true

abbrev pub is_same : ℤ → ℤ → Bool
is_same (pos m) (pos n) = eqb m n
is_same (negsuc m) (negsuc n) = eqb m n
is_same (pos m) (negsuc n) = false
is_same (negsuc m) (pos n) = false

-- 31 bits and a sign, which is written
unfoldable pub is_short : Bool → ℤ → Bool
is_short minus (pos n) = ltb n (2 ^ 31)
is_short minus (negsuc n) = ltb n (2 ^ 31) and minus

-- the second edition reads it as a, too, and that is a small number
unfoldable pub is_tame_after : Text → ℤ → Bool
is_tame_after s a = let_some (read_number 1 s) else false then λ b. is_small (starts_with s (bytes "-")) a b

-- both read it alike, and as a small number
unfoldable pub is_tame_text : Text → Bool
is_tame_text s = let_some (read_number 0 s) else false then is_tame_after s
