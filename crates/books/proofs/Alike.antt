-- Which texts the two number editions read alike, by how they begin, whatever follows: digits or not, of any length. Assumes nothing.
use Prim.Native.Nat.{ℕ, ◌^◌}
use mathlib.Core.Path.{◌≡◌, refl, sym, ap, ◌∙◌}
use mathlib.Core.Bool.{Bool, true, false, true≢false}
use mathlib.Core.List.{[], ◌∷◌, ◌++◌}
use mathlib.Core.Option.{Option, none, some}
use lib.Dec.{eqb, ltb}
use lib.IntN.{ℤ, pos}
use borrow.Author.Tests.{ltb-true}
use Rattle.reference.specs.Control.{◌and◌, ◌or◌, when◌then◌else◌, let_some◌else◌then◌}
use Rattle.reference.specs.Lists.{is_empty}
use Rattle.reference.specs.Text.{Text, bytes, strip_prefix, starts_with, contains}
use Rattle.reference.specs.Numbers.{digits_value, unsigned, read_u64, read_i64, as_i64, parse_c_number, base_of, prefix_size, constant_digits, constant_value, value_limit, read_constant}
use Rattle.reference.proofs.Opened.{opened}
use Rattle.reference.proofs.Numerals.{no_prefix, unquoted-row, base_0x}
use Rattle.books.proofs.Grammar2024.{pos_is}

-- what is made of digits of a number below a bound
abbrev bounded : ℕ → (ℕ → ℤ) → Option ℕ → Option ℤ
bounded bound f o = let_some o else none then λ n. when ltb n bound then some (f n) else none

-- ---- no sign and no zero in front: a row of decimal digits, or unread

no_other : (p s : Text) → starts_with s (bytes "0") ≡ false → starts_with s (48 ∷ p) ≡ false
unfolding ◌and◌
no_other p [] e = refl
no_other p (c ∷ cs) e = step (eqb c 48) e
  where
    step : (b : Bool) → (b and true) ≡ false → (b and starts_with cs p) ≡ false
    step true q = absurd (true≢false q)
    step false q = refl

same_again : (o : Option ℕ)
    → (let_some (let_some o else none then λ n. when ltb n (2 ^ 63) then some (pos n) else none) else none then λ z. some z) ≡ bounded (2 ^ 63) pos o
unfolding let_some◌else◌then◌ when◌then◌else◌
same_again none = refl
same_again (some n) = by (ltb n (2 ^ 63))
  where
    by : (b : Bool) → (let_some (when b then some (pos n) else none) else none then λ z. some z) ≡ (when b then some (pos n) else none)
    by true = refl
    by false = refl

small_alike : (o : Option ℕ) → bounded (2 ^ 63) pos o ≡ bounded (2 ^ 63) as_i64 o
unfolding let_some◌else◌then◌ when◌then◌else◌
small_alike none = refl
small_alike (some n) = by (ltb n (2 ^ 63)) refl
  where
    by : (b : Bool) → ltb n (2 ^ 63) ≡ b → (when b then some (pos n) else none) ≡ (when b then some (as_i64 n) else none)
    by true e = ap some (sym (pos_is n (ltb-true n (2 ^ 63) e)))
    by false e = refl

module _ (s : Text) (f : is_empty s ≡ false) (minus : starts_with s (bytes "-") ≡ false) (plus : starts_with s (bytes "+") ≡ false)
    (zero : starts_with s (bytes "0") ≡ false) (quote : contains s 39 ≡ false) where
  in_edition_0 : parse_c_number s ≡ bounded (2 ^ 63) pos (digits_value 10 0 s)
  unfolding parse_c_number read_i64 unsigned when◌then◌else◌ let_some◌else◌then◌ strip_prefix digits_value
  in_edition_0 =
      rw (minus, no_prefix (bytes "-") s minus, no_prefix (bytes "0x") s (no_other (bytes "x") s zero), no_prefix (bytes "+") s plus, f)
      (same_again (digits_value 10 0 s))

  base_10 : base_of s ≡ 10
  unfolding base_of ◌or◌ when◌then◌else◌
  base_10 = rw (no_other (bytes "x") s zero, no_other (bytes "X") s zero, no_other (bytes "b") s zero, no_other (bytes "B") s zero, zero)

  in_edition_1 : read_constant s ≡ bounded (2 ^ 63) as_i64 (digits_value 10 0 s)
  unfolding read_constant constant_value constant_digits prefix_size value_limit ◌or◌ when◌then◌else◌ let_some◌else◌then◌
  in_edition_1 = rw (base_10, unquoted-row s f quote)

  decimal_or-unread : parse_c_number s ≡ read_constant s
  decimal_or-unread = in_edition_0 ∙ small_alike (digits_value 10 0 s) ∙ sym in_edition_1

pub otherwise_alike : (s : Text) → starts_with s (bytes "-") ≡ false → starts_with s (bytes "+") ≡ false → starts_with s (bytes "0") ≡ false
    → contains s 39 ≡ false → parse_c_number s ≡ read_constant s
unfolding opened
otherwise_alike [] minus plus zero quote = refl
otherwise_alike (c ∷ cs) minus plus zero quote = decimal_or-unread (c ∷ cs) refl minus plus zero quote

-- ---- behind `0x`

large-again : (o : Option ℕ)
    → (let_some (let_some (let_some o else none then λ n. when ltb n (2 ^ 64) then some n else none) else none then λ n. some (as_i64 n)) else none then λ z. some z)
    ≡ bounded (2 ^ 64) as_i64 o
unfolding let_some◌else◌then◌ when◌then◌else◌
large-again none = refl
large-again (some n) = by (ltb n (2 ^ 64))
  where
    by : (b : Bool)
        → (let_some (let_some (when b then some n else none) else none then λ n. some (as_i64 n)) else none then λ z. some z)
        ≡ (when b then some (as_i64 n) else none)
    by true = refl
    by false = refl

module _ (s : Text) (f : is_empty s ≡ false) (plus : starts_with s (bytes "+") ≡ false) (quote : contains s 39 ≡ false) where
  behind-in_0 : parse_c_number (bytes "0x" ++ s) ≡ bounded (2 ^ 64) as_i64 (digits_value 16 0 s)
  unfolding parse_c_number read_u64 unsigned strip_prefix when◌then◌else◌ ◌and◌ let_some◌else◌then◌
  behind-in_0 = rw (no_prefix (bytes "+") s plus, f) (large-again (digits_value 16 0 s))

  behind-in_1 : read_constant (bytes "0x" ++ s) ≡ bounded (2 ^ 64) as_i64 (digits_value 16 0 s)
  unfolding read_constant constant_value constant_digits prefix_size value_limit ◌or◌ when◌then◌else◌ let_some◌else◌then◌
  behind-in_1 = rw (base_0x s, unquoted-row s f quote)

pub behind_0x_alike : (s : Text) → starts_with s (bytes "+") ≡ false → contains s 39 ≡ false
    → parse_c_number (bytes "0x" ++ s) ≡ read_constant (bytes "0x" ++ s)
unfolding opened
behind_0x_alike [] plus quote = refl
behind_0x_alike (c ∷ cs) plus quote = behind-in_0 (c ∷ cs) refl plus quote ∙ sym (behind-in_1 (c ∷ cs) refl plus quote)
