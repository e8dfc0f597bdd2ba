-- The parts of `parse_c_number` that the reading functions compute, under a name each. Assumes nothing.
use Rattle.std.specs.Prelude.{ℕ, ◌+◌, ◌*◌, ℤ, nat_le}
use Rattle.std.proofs.Math.Option.{Option, none, some}
use Rattle.reference.specs.Control.{when◌then◌else◌, let_some◌else◌then◌}
use Rattle.reference.specs.Text.{Text, bytes, strip_prefix}
use Rattle.reference.specs.Numbers.{to_digit, read_u64, read_i64, as_i64}

-- the number with one digit more
unfoldable pub with_digit : ℕ → ℕ → ℕ → Option ℕ
with_digit radix v c = let_some (to_digit radix c) else none then λ d. some (v * radix + d)

-- a number, where it is at most `most`
unfoldable pub at_most : ℕ → Option ℕ → Option ℕ
at_most most o = let_some o else none then λ n. when nat_le n most then some n else none

unfoldable pub hexadecimal : Text → Option ℤ
hexadecimal s = let_some (read_u64 16 s) else none then λ n. some (as_i64 n)

unfoldable pub unnegated : Text → Option ℤ
unnegated s = let_some (strip_prefix (bytes "0x") s) else read_i64 s then hexadecimal
