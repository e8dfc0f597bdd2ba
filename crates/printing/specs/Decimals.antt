-- Numbers in decimal. Assumes nothing.
use Rattle.std.specs.Prelude.{ℕ, []}
use Rattle.reference.specs.Text.{Text}
use Rattle.reference.specs.Numbers.{digits}

-- a number below 2^64 in decimal
unfoldable pub decimal : ℕ → Text
decimal n = digits 20 10 n []
