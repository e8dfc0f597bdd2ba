-- The integer constants of C, ISO/IEC 9899:2018, section 6.4.4.1: the syntax of paragraph 1, rule by rule, with the values of paragraph 4
-- ("the value of a decimal constant is computed base 10; that of an octal constant, base 8; that of a hexadecimal constant, base 16. The
-- lexically first digit is the most significant"). `Decimal s n` says that the text s is a decimal-constant of value n, and so on. The
-- types of paragraph 5 are not here: the Rust has none. Assumes nothing.
use Rattle.std.specs.Prelude.{ℕ, ◌+◌, ◌*◌, ◌^◌, cond, List, [], ◌∷◌, ◌++◌, map, ltb, ℤ, pos}
use Rattle.std.proofs.Math.IntN.{sub_ℕ}
use Rattle.reference.specs.Text.{Text, bytes}
use Rattle.books.specs.Tables.{words, valued, ◌∈◌}

-- ---- digits, each with its value

abbrev pub digits : List (ℕ × ℕ)
digits = valued 0 (bytes "0123456789")

abbrev pub nonzero_digits : List (ℕ × ℕ)
nonzero_digits = valued 1 (bytes "123456789")

abbrev pub octal_digits : List (ℕ × ℕ)
octal_digits = valued 0 (bytes "01234567")

-- "the letters a (or A) through f (or F) with values 10 through 15" (paragraph 3)
abbrev pub hexadecimal_digits : List (ℕ × ℕ)
hexadecimal_digits = valued 0 (bytes "0123456789abcdef") ++ valued 10 (bytes "ABCDEF")

-- ---- constants

-- decimal-constant: nonzero-digit, or decimal-constant digit
pub data Decimal : Text → ℕ → Type 0 where
  nonzero_digit : {c d : ℕ} → (c, d) ∈ nonzero_digits → Decimal (c ∷ []) d
  then_digit : {s : Text} {n c d : ℕ} → Decimal s n → (c, d) ∈ digits → Decimal (s ++ (c ∷ [])) (n * 10 + d)

-- octal-constant: 0, or octal-constant octal-digit
pub data Octal : Text → ℕ → Type 0 where
  zero_digit : Octal (bytes "0") 0
  then_octal : {s : Text} {n c d : ℕ} → Octal s n → (c, d) ∈ octal_digits → Octal (s ++ (c ∷ [])) (n * 8 + d)

-- hexadecimal-constant: hexadecimal-prefix hexadecimal-digit, or hexadecimal-constant hexadecimal-digit; here for one prefix
pub data Hexadecimal (prefix : Text) : Text → ℕ → Type 0 where
  prefix_then : {c d : ℕ} → (c, d) ∈ hexadecimal_digits → Hexadecimal prefix (prefix ++ (c ∷ [])) d
  then_hexadecimal : {s : Text} {n c d : ℕ} → Hexadecimal prefix s n → (c, d) ∈ hexadecimal_digits
      → Hexadecimal prefix (s ++ (c ∷ [])) (n * 16 + d)

abbrev pub hexadecimal_prefixes : List Text
hexadecimal_prefixes = words "0x 0X"

-- a constant with no suffix
pub data Unsuffixed : Text → ℕ → Type 0 where
  decimal : {s : Text} {n : ℕ} → Decimal s n → Unsuffixed s n
  octal : {s : Text} {n : ℕ} → Octal s n → Unsuffixed s n
  hexadecimal : {p s : Text} {n : ℕ} → p ∈ hexadecimal_prefixes → Hexadecimal p s n → Unsuffixed s n

-- ---- suffixes

abbrev pub each_with : List Text → List Text → List Text
each_with [] bs = []
each_with (a ∷ as') bs = map (a ++◌) bs ++ each_with as' bs

abbrev pub unsigned_suffix : List Text
unsigned_suffix = words "u U"

abbrev pub long_suffix : List Text
long_suffix = words "l L"

abbrev pub long_long_suffix : List Text
long_long_suffix = words "ll LL"

-- integer-suffix: unsigned-suffix long-suffix(opt), unsigned-suffix long-long-suffix, long-suffix unsigned-suffix(opt), or
-- long-long-suffix unsigned-suffix(opt)
abbrev pub integer_suffix : List Text
integer_suffix =
    unsigned_suffix ++ each_with unsigned_suffix long_suffix
    ++ each_with unsigned_suffix long_long_suffix
    ++ long_suffix ++ each_with long_suffix unsigned_suffix
    ++ long_long_suffix ++ each_with long_long_suffix unsigned_suffix

-- integer-constant: one of the three, with or without a suffix
pub data Constant : Text → ℕ → Type 0 where
  unsuffixed : {s : Text} {n : ℕ} → Unsuffixed s n → Constant s n
  suffixed : {s t : Text} {n : ℕ} → Unsuffixed s n → t ∈ integer_suffix → Constant (s ++ t) n

-- ---- 64 bits as a signed number

-- two's complement, as int64_t has it (7.20.1.1): of 64 bits that come to n, the signed value is n below 2^63, and n - 2^64 from there on
abbrev pub twos_complement : ℕ → ℤ
twos_complement n = cond (ltb n (2 ^ 63)) (pos n) (sub_ℕ n (2 ^ 64))
