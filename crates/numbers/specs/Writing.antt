-- The hexadecimal digits of a number. Assumes nothing.
use Rattle.std.specs.Prelude.{ℕ, []}
use Rattle.reference.specs.Text.{Text}
use Rattle.reference.specs.Numbers.{digits}

-- a number below 2^64 in hexadecimal, without the `0x`
unfoldable pub hexadecimal : ℕ → Text
hexadecimal n = digits 16 16 n []
