-- The two number editions of M-100 beside the book of the second: what edition 1 reads, where the editions agree, and a smallest example of
-- each difference. Assumes nothing.
use Rattle.std.specs.Prelude.{ℕ, ◌<◌, ◌≤◌, ◌^◌, ◌≡◌, false, ◌++◌, ℤ, pos, negsuc}
use Prim.Native.String.{String}
use Rattle.std.proofs.Math.Option.{Option, none, some}
use Rattle.reference.specs.Text.{Text, bytes, starts_with, contains}
use Rattle.reference.specs.Numbers.{read_number}
use Rattle.books.specs.Tables.{◌∈◌}
use Rattle.books.specs.Constants as edition-2018
use Rattle.books.specs.Constants2024.{Decimal, Octal, Hexadecimal, Binary, Unsuffixed, integer_suffix, Constant, Numeral}

-- what edition 0 reads of a text, and what edition 1 does
abbrev reads : String → Option ℤ → Option ℤ → Type 0
reads s r₀ r₁ = (read_number 0 (bytes s) ≡ r₀) × (read_number 1 (bytes s) ≡ r₁)

-- both editions read a text alike, and the text behind a minus
abbrev pub Alike : Text → Type 0
Alike s = (read_number 0 s ≡ read_number 1 s) × (read_number 0 (bytes "-" ++ s) ≡ read_number 1 (bytes "-" ++ s))

pub record Editions : Type 0 where
  -- ---- EDITION 1 READS EVERY UNSUFFIXED CONSTANT WITHIN THE STATED SIZES, TO ITS VALUE, AND NOTHING ELSE; of any length, with at most one
  -- minus
  pub read : {s : Text} {z : ℤ} → Numeral s z → read_number 1 s ≡ some z
  pub nothing_else : {s : Text} {z : ℤ} → read_number 1 s ≡ some z → Numeral s z
  -- so no constant with a suffix, and none that is too large
  pub suffix : {s t : Text} {n : ℕ} → Unsuffixed s n → t ∈ integer_suffix → Constant (s ++ t) n × (read_number 1 (s ++ t) ≡ none)
  pub decimal_from_2^63 : {s : Text} {n : ℕ} → Decimal s n → 2 ^ 63 ≤ n → read_number 1 s ≡ none
  pub octal_from_2^64 : {s : Text} {n : ℕ} → Octal s n → 2 ^ 64 ≤ n → read_number 1 s ≡ none
  pub hexadecimal_from_2^64 : {s : Text} {n : ℕ} → Hexadecimal s n → 2 ^ 64 ≤ n → read_number 1 s ≡ none
  pub binary_from_2^64 : {s : Text} {n : ℕ} → Binary s n → 2 ^ 64 ≤ n → read_number 1 s ≡ none
  -- ---- the grammars: a constant of the 2018 edition is one of the 2024 edition, of the same value
  pub still_a_constant : {s : Text} {n : ℕ} → edition-2018.Constant s n → Constant s n
  -- ---- where the editions agree: constants of the 2018 edition in decimal, in hexadecimal behind `0x`, and octal ones below eight; of any
  -- length and size, with a minus or without
  pub decimal_alike : {s : Text} {n : ℕ} → edition-2018.Decimal s n → Alike s
  pub hexadecimal_alike : {s : Text} {n : ℕ} → edition-2018.Hexadecimal (bytes "0x") s n → Alike s
  pub octal_alike : {s : Text} {n : ℕ} → edition-2018.Octal s n → n < 8 → Alike s
  -- and every text, a constant or not, that holds no quote and begins with no sign and no 0, or with a 0 that has an `x` behind it and no
  -- plus behind that
  pub otherwise_alike : (s : Text) → starts_with s (bytes "-") ≡ false → starts_with s (bytes "+") ≡ false
      → starts_with s (bytes "0") ≡ false → contains s 39 ≡ false → Alike s
  pub behind_0x_alike : (s : Text) → starts_with s (bytes "+") ≡ false → contains s 39 ≡ false → Alike (bytes "0x" ++ s)
  -- ---- where they differ
  pub octal : reads "010" (some (pos 10)) (some (pos 8))
  pub octal_from_eight : {s : Text} {n : ℕ} → edition-2018.Octal s n → 8 ≤ n → n < 2 ^ 64 → read_number 0 s ≡ read_number 1 s → ⊥
  pub octal_digit_eight : reads "08" (some (pos 8)) none
  pub two_minuses : reads "--5" (some (pos 5)) none
  pub plus : reads "+5" (some (pos 5)) none
  pub minus_plus : reads "-+5" (some (negsuc 4)) none
  pub hexadecimal_plus : reads "0x+5" (some (pos 5)) none
  pub capital_x : reads "0X1f" none (some (pos 31))
  pub binary : reads "0b1" none (some (pos 1))
  pub quote : reads "1'0" none (some (pos 10))
  -- ---- a quote stands between two digits: not first or last, not behind the prefix or in it, not beside another
  pub quote_first : reads "'1" none none
  pub quote_last : reads "1'" none none
  pub quote_behind_prefix : reads "0x'1" none none × reads "0b'1" none none
  pub quote_in_prefix : reads "0'x1" none none
  pub two_quotes : reads "1''0" none none
  pub quote_behind_zero : reads "0'7" none (some (pos 7)) × reads "0'8" none none
  -- the book's own examples of quotes
  pub quotes_in_binary : reads "0b11'10'11'01" none (some (pos 0xed))
  pub quote_before_and_between : reads "'1'2" none none
  pub quote_in_decimal : reads "11'22" none (some (pos 1122))
  pub quote_behind_0x : reads "0x'FFFF'FFFF" none none
  pub quotes_in_hexadecimal : reads "0x1'2'3'4AB'C'D" none (some (pos 0x1234abcd))
  -- ---- no digits, and a digit of no base
  pub no_digits : reads "0x" none none × reads "0b" none none × reads "0b2" none none
  -- ---- the ends of 64 bits
  pub all_ones : reads "-0xffffffffffffffff" (some (pos 1)) (some (pos 1))
  pub lowest : reads "-0x8000000000000000" (some (negsuc 0x7fffffffffffffff)) (some (negsuc 0x7fffffffffffffff))
  pub zeros_in_front : reads "0x00000000000000000000ff" (some (pos 255)) (some (pos 255))
  -- the lowest value in decimal: edition 0 takes a second minus, and edition 1 none
  pub lowest_in_decimal : reads "-9223372036854775808" none none × reads "--9223372036854775808" (some (negsuc 0x7fffffffffffffff)) none
