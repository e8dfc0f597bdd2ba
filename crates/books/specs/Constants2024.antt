-- The integer constants of C, ISO/IEC 9899:2024, section 6.4.4.2: its syntax, rule by rule, with the values of its semantics, beside the
-- 2018 edition's of Constants.antt, whose digits and prefixes are the same. `Decimal s n` says that the text s is a decimal-constant of
-- value n, and so on. New are the single quote between two digits, which counts for nothing in the value, binary constants, and the
-- suffix of bit-precise integers. Assumes nothing.
use Rattle.std.specs.Prelude.{ℕ, ◌+◌, ◌*◌, ◌^◌, ◌<◌, List, [], ◌∷◌, ◌++◌, ℤ, pos, neg_ℤ}
use Rattle.reference.specs.Text.{Text, bytes}
use Rattle.reference.specs.Numbers.{wrap}
use Rattle.books.specs.Tables.{words, valued, ◌∈◌}
use Rattle.books.specs.Constants.{digits, nonzero_digits, octal_digits, hexadecimal_digits, hexadecimal_prefixes, twos_complement}
use Rattle.books.specs.Constants.{each_with, unsigned_suffix, long_suffix, long_long_suffix}

-- '(opt): nothing, or a single quote
abbrev pub quote_opt : List Text
quote_opt = [] ∷ bytes "'" ∷ []

abbrev pub binary_digits : List (ℕ × ℕ)
binary_digits = valued 0 (bytes "01")

abbrev pub binary_prefixes : List Text
binary_prefixes = words "0b 0B"

-- decimal-constant: nonzero-digit, or decimal-constant '(opt) digit
pub data Decimal : Text → ℕ → Type 0 where
  nonzero_digit : {c d : ℕ} → (c, d) ∈ nonzero_digits → Decimal (c ∷ []) d
  then_digit : {s q : Text} {n c d : ℕ} → Decimal s n → q ∈ quote_opt → (c, d) ∈ digits → Decimal (s ++ q ++ (c ∷ [])) (n * 10 + d)

-- octal-constant: 0, or octal-constant '(opt) octal-digit
pub data Octal : Text → ℕ → Type 0 where
  zero_digit : Octal (bytes "0") 0
  then_octal : {s q : Text} {n c d : ℕ} → Octal s n → q ∈ quote_opt → (c, d) ∈ octal_digits → Octal (s ++ q ++ (c ∷ [])) (n * 8 + d)

-- hexadecimal-digit-sequence: hexadecimal-digit, or hexadecimal-digit-sequence '(opt) hexadecimal-digit
pub data HexadecimalDigits : Text → ℕ → Type 0 where
  hexadecimal_digit : {c d : ℕ} → (c, d) ∈ hexadecimal_digits → HexadecimalDigits (c ∷ []) d
  then_hexadecimal : {s q : Text} {n c d : ℕ} → HexadecimalDigits s n → q ∈ quote_opt → (c, d) ∈ hexadecimal_digits
      → HexadecimalDigits (s ++ q ++ (c ∷ [])) (n * 16 + d)

-- hexadecimal-constant: hexadecimal-prefix hexadecimal-digit-sequence
pub data Hexadecimal : Text → ℕ → Type 0 where
  prefix_digits : {p s : Text} {n : ℕ} → p ∈ hexadecimal_prefixes → HexadecimalDigits s n → Hexadecimal (p ++ s) n

-- binary-constant: binary-prefix binary-digit, or binary-constant '(opt) binary-digit
pub data Binary : Text → ℕ → Type 0 where
  prefix_digit : {p : Text} {c d : ℕ} → p ∈ binary_prefixes → (c, d) ∈ binary_digits → Binary (p ++ (c ∷ [])) d
  then_binary : {s q : Text} {n c d : ℕ} → Binary s n → q ∈ quote_opt → (c, d) ∈ binary_digits → Binary (s ++ q ++ (c ∷ [])) (n * 2 + d)

-- a constant with no suffix
pub data Unsuffixed : Text → ℕ → Type 0 where
  decimal : {s : Text} {n : ℕ} → Decimal s n → Unsuffixed s n
  octal : {s : Text} {n : ℕ} → Octal s n → Unsuffixed s n
  hexadecimal : {s : Text} {n : ℕ} → Hexadecimal s n → Unsuffixed s n
  binary : {s : Text} {n : ℕ} → Binary s n → Unsuffixed s n

-- ---- suffixes

abbrev pub bit_precise_int_suffix : List Text
bit_precise_int_suffix = words "wb WB"

-- integer-suffix: unsigned-suffix long-suffix(opt), unsigned-suffix long-long-suffix, unsigned-suffix bit-precise-int-suffix, long-suffix
-- unsigned-suffix(opt), long-long-suffix unsigned-suffix(opt), or bit-precise-int-suffix unsigned-suffix(opt)
abbrev pub integer_suffix : List Text
integer_suffix =
    unsigned_suffix ++ each_with unsigned_suffix long_suffix
    ++ each_with unsigned_suffix long_long_suffix
    ++ each_with unsigned_suffix bit_precise_int_suffix
    ++ long_suffix ++ each_with long_suffix unsigned_suffix
    ++ long_long_suffix ++ each_with long_long_suffix unsigned_suffix
    ++ bit_precise_int_suffix ++ each_with bit_precise_int_suffix unsigned_suffix

-- integer-constant: one of the four, with or without a suffix
pub data Constant : Text → ℕ → Type 0 where
  unsuffixed : {s : Text} {n : ℕ} → Unsuffixed s n → Constant s n
  suffixed : {s t : Text} {n : ℕ} → Unsuffixed s n → t ∈ integer_suffix → Constant (s ++ t) n

-- ---- the numbers of M-100

-- "A decimal of 2^63 or more stays unread; the other bases go to 64 bits, read as two's complement."
pub data Sized : Text → ℤ → Type 0 where
  small_decimal : {s : Text} {n : ℕ} → Decimal s n → n < 2 ^ 63 → Sized s (pos n)
  small_octal : {s : Text} {n : ℕ} → Octal s n → n < 2 ^ 64 → Sized s (twos_complement n)
  small_hexadecimal : {s : Text} {n : ℕ} → Hexadecimal s n → n < 2 ^ 64 → Sized s (twos_complement n)
  small_binary : {s : Text} {n : ℕ} → Binary s n → n < 2 ^ 64 → Sized s (twos_complement n)

-- "One minus in front is still taken off": the value is the negation, modulo 2^64
pub data Numeral : Text → ℤ → Type 0 where
  plain : {s : Text} {z : ℤ} → Sized s z → Numeral s z
  minus : {s : Text} {z : ℤ} → Sized s z → Numeral (bytes "-" ++ s) (wrap (neg_ℤ z))
