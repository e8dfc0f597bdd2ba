-- The constants of the 2018 edition of C that are in reach of request M-103: without suffix, of the sizes of request M-100, behind at most
-- one minus. The grammar is crate books' (ISO/IEC 9899:2018, 6.4.4.1); beside it stands its 2024 Numeral. Assumes nothing.
use Rattle.std.specs.Prelude.{ℕ, ◌<◌, ◌^◌, ◌++◌, ℤ, pos, neg_ℤ}
use Rattle.reference.specs.Text.{Text, bytes}
use Rattle.reference.specs.Numbers.{wrap}
use Rattle.books.specs.Tables.{◌∈◌}
use Rattle.books.specs.Constants.{Decimal, Octal, Hexadecimal, hexadecimal_prefixes, twos_complement}

pub data Sized : Text → ℤ → Type 0 where
  small_decimal : {s : Text} {n : ℕ} → Decimal s n → n < 2 ^ 63 → Sized s (pos n)
  small_octal : {s : Text} {n : ℕ} → Octal s n → n < 2 ^ 64 → Sized s (twos_complement n)
  small_hexadecimal : {p s : Text} {n : ℕ} → p ∈ hexadecimal_prefixes → Hexadecimal p s n → n < 2 ^ 64 → Sized s (twos_complement n)

pub data Numeral : Text → ℤ → Type 0 where
  plain : {s : Text} {z : ℤ} → Sized s z → Numeral s z
  minus : {s : Text} {z : ℤ} → Sized s z → Numeral (bytes "-" ++ s) (wrap (neg_ℤ z))
