-- Which texts are read as numbers, by their spelling, at any length: the constants of C (6.4.4.1) that have no suffix, and three sorts of
-- text that are no constants. Assumes nothing.
use Rattle.std.specs.Prelude.{ℕ, ◌-◌, ◌^◌, ◌≡◌, Bool, true, List, [], ◌∷◌, ◌++◌, ℤ, pos, negsuc}
use Rattle.std.proofs.Math.Option.{some}
use Rattle.reference.specs.Lists.{any}
use Rattle.reference.specs.Text.{Text, bytes, contains}
use Rattle.reference.specs.Numbers.{parse_c_number}
use Rattle.books.specs.Tables.{words, ◌∈◌}
use Rattle.books.specs.Constants.{digits, hexadecimal_digits, Unsuffixed, Constant}
use Rattle.books.specs.Differences.{reads, unread, no_constant}

-- one digit of a table, or more
pub data Digits (table : List (ℕ × ℕ)) : Text → Type 0 where
  one : {c d : ℕ} → (c, d) ∈ table → Digits table (c ∷ [])
  more : {c d : ℕ} {t : Text} → (c, d) ∈ table → Digits table t → Digits table (c ∷ t)

abbrev pub eight_or_nine : ℕ → Bool
eight_or_nine c = contains (bytes "89") c

pub data Spelling : Text → Type 0 where
  -- a constant of C
  constant : {s : Text} {n : ℕ} → Unsuffixed s n → Spelling s
  -- decimal digits behind a sign, or behind two of which the first is a minus
  signed : {p t : Text} → p ∈ words "+ - -+ --" → Digits digits t → Spelling (p ++ t)
  -- hexadecimal digits with a minus before their `0x`, a plus behind it, or both
  signed_hexadecimal : {p t : Text} → p ∈ words "-0x 0x+ -0x+" → Digits hexadecimal_digits t → Spelling (p ++ t)
  -- decimal digits behind a 0, and one of them is no octal digit
  no_octal : {t : Text} → Digits digits t → any eight_or_nine t ≡ true → Spelling (48 ∷ t)

pub record Spellings : Type 0 where
  -- no text is read but these
  pub no_other_number : {s : Text} {z : ℤ} → parse_c_number s ≡ some z → Spelling s
  -- and of these the last three sorts are no constants of C, with or without a suffix
  pub signed_is_none : {p : Text} → p ∈ words "+ - -+ -- -0x 0x+ -0x+" → (t : Text) (n : ℕ) → Constant (p ++ t) n → ⊥
  pub no_octal_is_none : {t : Text} → Digits digits t → any eight_or_nine t ≡ true → (n : ℕ) → Constant (48 ∷ t) n → ⊥
  -- one of each that no other example has
  pub minus_octal : no_constant "-010" × reads "-010" (negsuc 9)
  pub minus_hexadecimal : no_constant "-0x5" × reads "-0x5" (negsuc 4)
  pub minus_hexadecimal_plus : no_constant "-0x+5" × reads "-0x+5" (negsuc 4)
  pub plus_no_octal : no_constant "+08" × reads "+08" (pos 8)
  pub zeros_no_octal : no_constant "0019" × reads "0019" (pos 19)
  -- the lowest number of 64 bits is not read behind one minus, and is what is read behind two
  pub lowest : unread "-9223372036854775808"
  pub lowest_behind_two : no_constant "--9223372036854775808" × reads "--9223372036854775808" (negsuc (2 ^ 63 - 1))
