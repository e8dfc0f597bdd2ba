-- The bits of a signed number. Assumes nothing.
use Rattle.std.specs.Prelude.{ℕ, suc, ◌-◌, ◌%◌, ◌^◌, ℤ, pos, negsuc}

-- the lowest k bits of an integer in two's complement, as a number below 2 ^ k
unfoldable pub bits_of : ℕ → ℤ → ℕ
bits_of k (pos n) = n % 2 ^ k
bits_of k (negsuc n) = 2 ^ k - suc (n % 2 ^ k)
