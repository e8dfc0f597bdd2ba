-- The two number editions, beside the book of the second. Assumes nothing.
use Prim.Native.Nat.{ℕ, zero, suc, ◌+◌, ◌*◌, ◌<◌, ◌≤◌, ◌^◌}
use native.Mathlib.Omega.{arith}
use mathlib.Core.Path.{◌≡◌, refl, sym, ap, ◌∙◌, subst⁻¹}
use mathlib.Core.Bool.{Bool, true, false, false≢true}
use mathlib.Core.List.{List, [], ◌∷◌, ◌++◌, map, append_assoc, append-nil}
use mathlib.Core.Option.{none, some}
use lib.Dec.{ltb}
use lib.IntN.{pos}
use borrow.Author.Tests.{eqb-true, le-ltb, lt-ltb, ltb-true}
use Rattle.reference.specs.Control.{when◌then◌else◌}
use Rattle.reference.specs.Lists.{any}
use Rattle.reference.specs.Text.{Text, bytes, ◌≟◌, starts_with}
use Rattle.reference.specs.Numbers.{as_i64, parse_c_number, read_constant, read_number}
use Rattle.reference.proofs.Opened.{opened}
use Rattle.reference.proofs.Cases.{both, either, some_inj, if_some}
use Rattle.reference.proofs.Numerals.{minus_0, minus_1, plain_1, negated}
use Rattle.books.specs.Tables.{◌∈◌}
use Rattle.books.specs.Constants as edition-2018
use Rattle.books.specs.Constants2024.{Decimal, nonzero_digit, then_digit, Octal, zero_digit, then_octal, HexadecimalDigits, hexadecimal_digit, then_hexadecimal, Hexadecimal, prefix_digits, Unsuffixed}
use Rattle.books.specs.Constants2024.{decimal, octal, hexadecimal, binary, integer_suffix, Constant, unsuffixed, suffixed}
use Rattle.books.specs.Editions.{Alike, Editions}
use Rattle.books.proofs.Entries.{at_each}
use Rattle.books.proofs.Grammar as old
use Rattle.books.proofs.Alike.{otherwise_alike, behind_0x_alike}
use Rattle.books.proofs.Grammar2024.{decimal_is, octal_is, hexadecimal_is, binary_is, unsuffixed-plain, numeral_is_read, read_is_numeral, suffixed-unread, pos_is}

-- ---- a constant of the 2018 edition is one of the 2024 edition

-- no quote
unquoted_as : (G : Text → Type 0) (s : Text) (c : ℕ) → G (s ++ [] ++ (c ∷ [])) → G (s ++ (c ∷ []))
unquoted_as G s c g = rw append-nil at g

pub still_decimal : {s : Text} {n : ℕ} → edition-2018.Decimal s n → Decimal s n
still_decimal (edition-2018.nonzero_digit h) = nonzero_digit h
still_decimal (edition-2018.then_digit {s} {n} {c} {d} r h) = unquoted_as (λ t. Decimal t (n * 10 + d)) s c (then_digit (still_decimal r) (0, refl) h)

pub still_octal : {s : Text} {n : ℕ} → edition-2018.Octal s n → Octal s n
still_octal edition-2018.zero_digit = zero_digit
still_octal (edition-2018.then_octal {s} {n} {c} {d} r h) = unquoted_as (λ t. Octal t (n * 8 + d)) s c (then_octal (still_octal r) (0, refl) h)

-- the prefix, and the digits behind it
record Split (prefix s : Text) (n : ℕ) : Type 0 where
  rest : Text
  whole : s ≡ prefix ++ rest
  digits : HexadecimalDigits rest n

split : {prefix s : Text} {n : ℕ} → edition-2018.Hexadecimal prefix s n → Split prefix s n
split (edition-2018.prefix_then {c} h) = record { rest = c ∷ []; whole = refl; digits = hexadecimal_digit h }
split {prefix} (edition-2018.then_hexadecimal {s} {n} {c} {d} r h) = one_more (split r)
  where
    one_more : Split prefix s n → Split prefix (s ++ (c ∷ [])) (n * 16 + d)
    one_more q =
        record {
          rest = q.rest ++ (c ∷ []);
          whole = ap (◌++ (c ∷ [])) q.whole ∙ append_assoc prefix q.rest (c ∷ []);
          digits = unquoted_as (λ t. HexadecimalDigits t (n * 16 + d)) q.rest c (then_hexadecimal q.digits (0, refl) h);
        }

pub still_hexadecimal : {p s : Text} {n : ℕ} → p ∈ edition-2018.hexadecimal_prefixes → edition-2018.Hexadecimal p s n → Hexadecimal s n
still_hexadecimal {n = n} m r = let q = split r in subst⁻¹ (λ (t : Text). Hexadecimal t n) q.whole (prefix_digits m q.digits)

still_unsuffixed : {s : Text} {n : ℕ} → edition-2018.Unsuffixed s n → Unsuffixed s n
still_unsuffixed (edition-2018.decimal r) = decimal (still_decimal r)
still_unsuffixed (edition-2018.octal r) = octal (still_octal r)
still_unsuffixed (edition-2018.hexadecimal m r) = hexadecimal (still_hexadecimal m r)

-- the suffixes of 2018 are among those of 2024
abbrev stands_in : List Text → Text → Bool
stands_in xs t = any (◌≟ t) xs

still_suffixes : map (stands_in integer_suffix) edition-2018.integer_suffix ≡ map (λ t. true) edition-2018.integer_suffix
unfolding opened
still_suffixes = refl

same_text : (s t : Text) → (s ≟ t) ≡ true → s ≡ t
same_text [] [] h = refl
same_text [] (y ∷ t) h = absurd (false≢true h)
same_text (x ∷ s) [] h = absurd (false≢true h)
same_text (x ∷ s) (y ∷ t) h = λ k. eqb-true x y (both h).0 k ∷ same_text s t (both h).1 k

stands : (xs : List Text) (t : Text) → stands_in xs t ≡ true → t ∈ xs
stands [] t h = absurd (false≢true h)
stands (x ∷ xs) t h =
    either (t ∈ (x ∷ xs)) h (λ e. (zero, ap some (same_text x t e))) (λ e. (let r = stands xs t e in (suc r.0, r.1)))

still_constant : {s : Text} {n : ℕ} → edition-2018.Constant s n → Constant s n
still_constant (edition-2018.unsuffixed u) = unsuffixed (still_unsuffixed u)
still_constant (edition-2018.suffixed {t = t} u m) =
    suffixed (still_unsuffixed u) (stands integer_suffix t (at_each (stands_in integer_suffix) (λ t. true) edition-2018.integer_suffix still_suffixes m))

-- ---- where they agree

module _ (s : Text) (n : starts_with s (bytes "-") ≡ false) where
  edition_1 : read_number 1 s ≡ read_constant s
  unfolding read_number when◌then◌else◌
  edition_1 = plain_1 s n

  edition_0 : read_number 0 s ≡ parse_c_number s
  unfolding read_number when◌then◌else◌
  edition_0 = refl

  alike : parse_c_number s ≡ read_constant s → Alike s
  unfolding read_number when◌then◌else◌
  alike e = (e ∙ sym (plain_1 s n), minus_0 s n ∙ ap negated e ∙ sym (minus_1 s))

-- one value below the bound, another from it on
within {ℓ} : {A : Type ℓ} (n bound : ℕ) (a b : A) → (n < bound → a ≡ b) → (when ltb n bound then some a else none) ≡ (when ltb n bound then some b else none)
unfolding when◌then◌else◌
within n bound a b f = by (ltb n bound) refl
  where
    by : (t : Bool) → ltb n bound ≡ t → (when t then some a else none) ≡ (when t then some b else none)
    by true e = ap some (f (ltb-true n bound e))
    by false e = refl

decimal_same : {s : Text} {n : ℕ} → edition-2018.Decimal s n → Alike s
decimal_same {s} {n} r =
    alike s (unsuffixed-plain (decimal (still_decimal r)))
    (old.decimal_is r ∙ within n (2 ^ 63) (pos n) (as_i64 n) (λ h. sym (pos_is n h)) ∙ sym (decimal_is (still_decimal r)))

hexadecimal_same : {s : Text} {n : ℕ} → edition-2018.Hexadecimal (bytes "0x") s n → Alike s
hexadecimal_same {s} r =
    let q = still_hexadecimal (0, refl) r in
    alike s (unsuffixed-plain (hexadecimal q)) (old.hexadecimal_is r ∙ sym (hexadecimal_is q))

below {ℓ} : {A : Type ℓ} (n bound : ℕ) (a : A) → n < bound → (when ltb n bound then some a else none) ≡ some a
unfolding when◌then◌else◌
below n bound a h = rw (lt-ltb n bound h)

refused {ℓ} : {A : Type ℓ} (n bound : ℕ) (a : A) → bound ≤ n → (when ltb n bound then some a else none) ≡ none
unfolding when◌then◌else◌
refused n bound a h = rw (le-ltb n bound h)

module _ {s : Text} {n : ℕ} (r : edition-2018.Octal s n) where
  octal-plain : starts_with s (bytes "-") ≡ false
  octal-plain = unsuffixed-plain (octal (still_octal r))

  octal_same : n < 8 → Alike s
  octal_same h =
      let q = old.octal_is r in
      let e : q.0 ≡ n = q.2 h in
      alike s octal-plain
      (q.1
      ∙ below q.0 (2 ^ 63) (pos q.0) (omega arith)
      ∙ ap some (ap pos e ∙ sym (pos_is n (omega arith)))
      ∙ sym (octal_is (still_octal r) ∙ below n (2 ^ 64) (as_i64 n) (omega arith)))

  octal-other : 8 ≤ n → n < 2 ^ 64 → read_number 0 s ≡ read_number 1 s → ⊥
  octal-other l h e =
      let q = old.octal_is r in
      let less : n < q.0 = q.3 l in
      let same : (when ltb q.0 (2 ^ 63) then some (pos q.0) else none) ≡ some (as_i64 n) =
      sym q.1 ∙ sym (edition_0 s octal-plain) ∙ e ∙ edition_1 s octal-plain ∙ octal_is (still_octal r) ∙ below n (2 ^ 64) (as_i64 n) h in
      let k = if_some same in
      let small : q.0 < 2 ^ 63 = ltb-true q.0 (2 ^ 63) k.0 in
      let two : pos q.0 ≡ pos n = some_inj k.1 ∙ pos_is n (omega arith) in
      let m : q.0 ≡ n = cc in
      omega arith

-- ---- all together

module _ {s : Text} {n : ℕ} where
  large : Unsuffixed s n → (bound : ℕ) → read_constant s ≡ (when ltb n bound then some (as_i64 n) else none) → bound ≤ n → read_number 1 s ≡ none
  large u bound e h = edition_1 s (unsuffixed-plain u) ∙ e ∙ refused n bound (as_i64 n) h

pub editions : Editions
unfolding opened
editions =
    record {
      read = numeral_is_read;
      nothing_else = λ {s} e. read_is_numeral s e;
      suffix = λ {s} u m. (suffixed u m, suffixed-unread s m);
      decimal_from_2^63 = λ r h. large (decimal r) (2 ^ 63) (decimal_is r) h;
      octal_from_2^64 = λ r h. large (octal r) (2 ^ 64) (octal_is r) h;
      hexadecimal_from_2^64 = λ r h. large (hexadecimal r) (2 ^ 64) (hexadecimal_is r) h;
      binary_from_2^64 = λ r h. large (binary r) (2 ^ 64) (binary_is r) h;
      still_a_constant = still_constant;
      decimal_alike = decimal_same;
      hexadecimal_alike = hexadecimal_same;
      octal_alike = octal_same;
      otherwise_alike = λ s minus plus zero quote. alike s minus (otherwise_alike s minus plus zero quote);
      behind_0x_alike = λ s plus quote. alike (bytes "0x" ++ s) refl (behind_0x_alike s plus quote);
      octal = (refl, refl);
      octal_from_eight = octal-other;
      octal_digit_eight = (refl, refl);
      two_minuses = (refl, refl);
      plus = (refl, refl);
      minus_plus = (refl, refl);
      hexadecimal_plus = (refl, refl);
      capital_x = (refl, refl);
      binary = (refl, refl);
      quote = (refl, refl);
      quote_first = (refl, refl);
      quote_last = (refl, refl);
      quote_behind_prefix = ((refl, refl), (refl, refl));
      quote_in_prefix = (refl, refl);
      two_quotes = (refl, refl);
      quote_behind_zero = ((refl, refl), (refl, refl));
      quotes_in_binary = (refl, refl);
      quote_before_and_between = (refl, refl);
      quote_in_decimal = (refl, refl);
      quote_behind_0x = (refl, refl);
      quotes_in_hexadecimal = (refl, refl);
      no_digits = ((refl, refl), (refl, refl), (refl, refl));
      all_ones = (refl, refl);
      lowest = (refl, refl);
      zeros_in_front = (refl, refl);
      lowest_in_decimal = ((refl, refl), (refl, refl));
    }
