-- C's integer constants, as `parse_c_number` meets them: what their digits come to, how they begin, and which bytes they never hold.
-- Assumes nothing.
use Prim.Native.Nat.{ℕ, ◌+◌, ◌*◌, ◌<◌, ◌≤◌, ◌^◌}
use native.Mathlib.Omega.{arith}
use mathlib.Core.Path.{◌≡◌, refl, sym, ap, ◌∙◌}
use mathlib.Core.Bool.{Bool, true, false, true≢false, false≢true}
use mathlib.Core.List.{List, [], ◌∷◌, ◌++◌, map, append_assoc, append-nil}
use mathlib.Core.Option.{Option, none, some}
use lib.Dec.{eqb, ltb}
use lib.IntN.{pos}
use borrow.Author.Tests.{ltb-true}
use Rattle.reference.specs.Control.{◌and◌, ◌or◌, when◌then◌else◌, let_some◌else◌then◌}
use Rattle.reference.specs.Lists.{any, is_empty}
use Rattle.reference.specs.Text.{Text, bytes, starts_with, contains}
use Rattle.reference.specs.Numbers.{to_digit, digits_value, as_i64, parse_c_number}
use Rattle.reference.proofs.Opened.{opened}
use Rattle.reference.proofs.Numerals.{value_more, begins-with_digit, read-decimal, read-hexadecimal}
use Rattle.laws.proofs.Scans.{or_true, or_false, any_append}
use Rattle.books.specs.Tables.{◌∈◌}
use Rattle.books.specs.Constants.{digits, nonzero_digits, octal_digits, hexadecimal_digits, hexadecimal_prefixes, integer_suffix, Decimal, nonzero_digit, then_digit, Octal, zero_digit, then_octal}
use Rattle.books.specs.Constants.{Hexadecimal, prefix_then, then_hexadecimal, Unsuffixed, decimal, octal, hexadecimal, Constant, unsuffixed, suffixed}
use Rattle.books.proofs.Entries.{at_each}
use Rattle.books.proofs.Reading.{stranger, unread}

-- ---- digits

abbrev pub read_as : ℕ → ℕ × ℕ → Option ℕ
read_as radix e = to_digit radix e.0

abbrev pub value : ℕ × ℕ → Option ℕ
value e = some e.1

pub digits_are : map (read_as 10) digits ≡ map value digits
unfolding opened
digits_are = refl

pub nonzero_digits-are : map (read_as 10) nonzero_digits ≡ map value nonzero_digits
unfolding opened
nonzero_digits-are = refl

octal-digits-are : map (read_as 10) octal_digits ≡ map value octal_digits
unfolding opened
octal-digits-are = refl

pub hexadecimal-digits-are : map (read_as 16) hexadecimal_digits ≡ map value hexadecimal_digits
unfolding opened
hexadecimal-digits-are = refl

one_digit : (radix c : ℕ) {d : ℕ} → to_digit radix c ≡ some d → digits_value radix 0 (c ∷ []) ≡ some d
unfolding digits_value let_some◌else◌then◌
one_digit radix c h = rw h (ap some (omega arith))

filled : (s : Text) (c : ℕ) → is_empty (s ++ (c ∷ [])) ≡ false
filled [] c = refl
filled (x ∷ xs) c = refl

-- ---- decimal

decimal_value : {s : Text} {n : ℕ} → Decimal s n → digits_value 10 0 s ≡ some n
decimal_value (nonzero_digit {c} h) = one_digit 10 c (at_each (read_as 10) value nonzero_digits nonzero_digits-are h)
decimal_value (then_digit {s} {c = c} r h) = value_more 10 c (at_each (read_as 10) value digits digits_are h) 0 s (decimal_value r)

decimal-filled : {s : Text} {n : ℕ} → Decimal s n → is_empty s ≡ false
decimal-filled (nonzero_digit h) = refl
decimal-filled (then_digit {s} {c = c} r h) = filled s c

pub no_zero : map (λ e. eqb e.0 48) nonzero_digits ≡ map (λ e. false) nonzero_digits
no_zero = refl

decimal-begins : {s : Text} {n : ℕ} → Decimal s n → (p t : Text) → starts_with (s ++ t) (48 ∷ p) ≡ false
unfolding ◌and◌
decimal-begins (nonzero_digit h) p t = rw (at_each (λ e. eqb e.0 48) (λ e. false) nonzero_digits no_zero h)
decimal-begins (then_digit {s} {c = c} r h) p t = rw append_assoc (decimal-begins r p (c ∷ t))

pub decimal_is : {s : Text} {n : ℕ} → Decimal s n → parse_c_number s ≡ (when ltb n (2 ^ 63) then some (pos n) else none)
decimal_is {s} r =
    read-decimal s (decimal-filled r) (rw append-nil at (decimal-begins r (bytes "x") [])) (decimal_value r)

-- ---- hexadecimal

-- the prefix, and what its digits come to
record Spelled (prefix s : Text) (n : ℕ) : Type 0 where
  rest : Text
  whole : s ≡ prefix ++ rest
  some_digit : is_empty rest ≡ false
  comes_to : digits_value 16 0 rest ≡ some n

spelled : {prefix s : Text} {n : ℕ} → Hexadecimal prefix s n → Spelled prefix s n
spelled (prefix_then {c} h) =
    record { rest = c ∷ []; whole = refl; some_digit = refl; comes_to = one_digit 16 c (at_each (read_as 16) value hexadecimal_digits hexadecimal-digits-are h) }
spelled {prefix} (then_hexadecimal {s} {n} {c} {d} r h) = one_more (spelled r)
  where
    one_more : Spelled prefix s n → Spelled prefix (s ++ (c ∷ [])) (n * 16 + d)
    one_more q =
        record {
          rest = q.rest ++ (c ∷ []);
          whole = ap (◌++ (c ∷ [])) q.whole ∙ append_assoc prefix q.rest (c ∷ []);
          some_digit = filled q.rest c;
          comes_to = value_more 16 c (at_each (read_as 16) value hexadecimal_digits hexadecimal-digits-are h) 0 q.rest q.comes_to;
        }

pub hexadecimal_is : {s : Text} {n : ℕ} → Hexadecimal (bytes "0x") s n → parse_c_number s ≡ (when ltb n (2 ^ 64) then some (as_i64 n) else none)
hexadecimal_is r = let q = spelled r in rw q.whole (read-hexadecimal q.rest q.some_digit q.comes_to)

-- ---- octal

-- an octal constant of value n, read as if decimal
record AsDecimal (s : Text) (n : ℕ) : Type 0 where
  m : ℕ
  comes_to : digits_value 10 0 s ≡ some m
  same : n < 8 → m ≡ n
  larger : n ≤ m
  larger_from_eight : 8 ≤ n → n < m

below-eight : map (λ e. ltb e.1 8) octal_digits ≡ map (λ e. true) octal_digits
below-eight = refl

as_decimal : {s : Text} {n : ℕ} → Octal s n → AsDecimal s n
unfolding opened
as_decimal zero_digit = record { m = 0; comes_to = refl; same = λ h. refl; larger = omega arith; larger_from_eight = λ h. omega arith }
as_decimal (then_octal {s} {n} {c} {d} r h) = one_more (as_decimal r)
  where
    one_more : AsDecimal s n → AsDecimal (s ++ (c ∷ [])) (n * 8 + d)
    one_more q =
        record {
          m = q.m * 10 + d;
          comes_to = value_more 10 c (at_each (read_as 10) value octal_digits octal-digits-are h) 0 s q.comes_to;
          same = λ b. let e : q.m ≡ n = q.same (omega arith) in omega arith;
          larger = omega arith;
          larger_from_eight = λ b. omega (arith, ltb-true d 8 (at_each (λ e. ltb e.1 8) (λ e. true) octal_digits below-eight h));
        }

begins_with-zero : {s : Text} {n : ℕ} → Octal s n → (rest : Text) × (s ≡ 48 ∷ rest)
begins_with-zero zero_digit = ([], refl)
begins_with-zero (then_octal {c = c} r h) = let q = begins_with-zero r in (q.0 ++ (c ∷ []), ap (◌++ (c ∷ [])) q.1)

octal-filled : {s : Text} {n : ℕ} → Octal s n → is_empty s ≡ false
octal-filled zero_digit = refl
octal-filled (then_octal {s} {c = c} r h) = filled s c

-- no x behind the zero
octal-begins : (s rest : Text) {m : ℕ} → s ≡ 48 ∷ rest → digits_value 10 0 s ≡ some m → starts_with s (bytes "0x") ≡ false
unfolding opened
octal-begins s rest e v = rw e (begins-with_digit 10 0 120 [] rest refl (rw e at v))

pub octal_is : {s : Text} {n : ℕ} → Octal s n → (m : ℕ) × (parse_c_number s ≡ (when ltb m (2 ^ 63) then some (pos m) else none)) × (n < 8 → m ≡ n) × (8 ≤ n → n < m)
octal_is {s} r =
    let q = as_decimal r in
    let z = begins_with-zero r in
    (q.m, read-decimal s (octal-filled r) (octal-begins s z.0 z.1 q.comes_to) q.comes_to, q.same, q.larger_from_eight)

-- ---- the bytes of a constant

module _ (p : ℕ → Bool) where
  any_left : (s t : Text) → any p s ≡ true → any p (s ++ t) ≡ true
  any_left s t h = any_append p s t ∙ or_true (any p t) h

  pub any-right : (s t : Text) → any p t ≡ true → any p (s ++ t) ≡ true
  unfolding ◌or◌
  any-right s t h = any_append p s t ∙ step (any p s) h
    where
      step : (b : Bool) {c : Bool} → c ≡ true → (b or c) ≡ true
      step true e = refl
      step false e = e

  pub free : (s t : Text) → any p s ≡ false → any p t ≡ false → any p (s ++ t) ≡ false
  free s t e f = any_append p s t ∙ or_false (any p t) e ∙ f

  -- none of a table's characters is such a byte
  abbrev pub Free : List (ℕ × ℕ) → Type 0
  Free table = map (λ e. any p (e.0 ∷ [])) table ≡ map (λ e. false) table

  pub free-digit : (table : List (ℕ × ℕ)) → Free table → {c d : ℕ} → (c, d) ∈ table → any p (c ∷ []) ≡ false
  free-digit table f h = at_each (λ e. any p (e.0 ∷ [])) (λ e. false) table f h

  decimal-free : Free nonzero_digits → Free digits → {s : Text} {n : ℕ} → Decimal s n → any p s ≡ false
  decimal-free f g (nonzero_digit h) = free-digit nonzero_digits f h
  decimal-free f g (then_digit {s} {c = c} r h) = free s (c ∷ []) (decimal-free f g r) (free-digit digits g h)

  octal-free : any p (bytes "0") ≡ false → Free octal_digits → {s : Text} {n : ℕ} → Octal s n → any p s ≡ false
  octal-free z f zero_digit = z
  octal-free z f (then_octal {s} {c = c} r h) = free s (c ∷ []) (octal-free z f r) (free-digit octal_digits f h)

  hexadecimal-free : Free hexadecimal_digits → {q : Text} → any p q ≡ false → {s : Text} {n : ℕ} → Hexadecimal q s n → any p s ≡ false
  hexadecimal-free f {q} z (prefix_then {c} h) = free q (c ∷ []) z (free-digit hexadecimal_digits f h)
  hexadecimal-free f z (then_hexadecimal {s} {c = c} r h) = free s (c ∷ []) (hexadecimal-free f z r) (free-digit hexadecimal_digits f h)

abbrev sign : ℕ → Bool
sign c = contains (bytes "+-") c

unsuffixed-unsigned : {s : Text} {n : ℕ} → Unsuffixed s n → any sign s ≡ false
unfolding opened
unsuffixed-unsigned (decimal r) = decimal-free sign refl refl r
unsuffixed-unsigned (octal r) = octal-free sign refl refl r
unsuffixed-unsigned (hexadecimal m r) = hexadecimal-free sign refl (at_each (any sign) (λ q. false) hexadecimal_prefixes refl m) r

-- a constant holds no sign
no_sign : {s : Text} {n : ℕ} → Constant s n → any sign s ≡ false
unfolding opened
no_sign (unsuffixed u) = unsuffixed-unsigned u
no_sign (suffixed {s} {t} u m) = free sign s t (unsuffixed-unsigned u) (at_each (any sign) (λ q. false) integer_suffix refl m)

pub signed_is_none : (s : Text) → any sign s ≡ true → (n : ℕ) → Constant s n → ⊥
signed_is_none s h n r = true≢false (sym h ∙ no_sign r)

abbrev eight : ℕ → Bool
eight c = contains (bytes "89") c

abbrev letter_x : ℕ → Bool
letter_x c = contains (bytes "xX") c

abbrev suffix_letter : ℕ → Bool
suffix_letter c = contains (bytes "uUlL") c

-- `08` is none: decimal constants begin with another digit, octal ones hold no 8, and it has no prefix and no suffix
pub zero-eight_is_none : {s : Text} {n : ℕ} → Constant s n → s ≡ bytes "08" → ⊥
unfolding opened
zero-eight_is_none (unsuffixed (decimal r)) e = true≢false (rw e at (decimal-begins r [] []))
zero-eight_is_none (unsuffixed (octal r)) e = true≢false (rw e at (octal-free eight refl refl r))
zero-eight_is_none (unsuffixed (hexadecimal {p} m r)) e =
    let q = spelled r in
    false≢true (rw (sym q.whole ∙ e) at (any_left letter_x p q.rest (at_each (any letter_x) (λ x. true) hexadecimal_prefixes refl m)))
zero-eight_is_none (suffixed {s} {t} u m) e =
    false≢true (rw e at (any-right suffix_letter s t (at_each (any suffix_letter) (λ x. true) integer_suffix refl m)))

-- so is any zero with an 8 or 9 behind it, and no letter that begins hexadecimal digits or a suffix
pub zero_then-eight_is_none : {s t : Text} {n : ℕ} → Constant s n → s ≡ 48 ∷ t → any eight t ≡ true → any letter_x t ≡ false → any suffix_letter t ≡ false → ⊥
unfolding opened
zero_then-eight_is_none (unsuffixed (decimal r)) e h x u = true≢false (rw e at (decimal-begins r [] []))
zero_then-eight_is_none (unsuffixed (octal r)) e h x u = true≢false (sym h ∙ (rw e at (octal-free eight refl refl r)))
zero_then-eight_is_none (unsuffixed (hexadecimal {p} m r)) e h x u =
    let q = spelled r in
    false≢true (sym x ∙ (rw (sym q.whole ∙ e) at (any_left letter_x p q.rest (at_each (any letter_x) (λ x. true) hexadecimal_prefixes refl m))))
zero_then-eight_is_none (suffixed {s} {t} k m) e h x u =
    false≢true (sym u ∙ (rw e at (any-right suffix_letter s t (at_each (any suffix_letter) (λ x. true) integer_suffix refl m))))

-- ---- never read

pub capital_x-unread : {s : Text} {n : ℕ} → Hexadecimal (bytes "0X") s n → parse_c_number s ≡ none
unfolding opened
capital_x-unread {s} r = let q = spelled r in unread s (rw q.whole)

pub suffixed-unread : (s : Text) {t : Text} → t ∈ integer_suffix → parse_c_number (s ++ t) ≡ none
unfolding opened
suffixed-unread s {t} m = unread (s ++ t) (any-right stranger s t (at_each (any stranger) (λ x. true) integer_suffix refl m))
