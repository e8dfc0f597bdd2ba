-- What std reads as a number, by `from_str_radix` and `parse`, is the number of the definitions, and where it reads none they have none; a
-- text that is no UTF-8 has none. Assumes nothing.
use Rattle.std.proofs.Common.{◌≡◌, ℕ, zero, suc, ◌+◌, ◌*◌, ◌^◌, ◌<◌, ◌≤◌, Bool, true, false, cond, eqb, ltb, leb, [], ◌∷◌, drop, slice_index, ℤ, pos, neg_ℤ, refl, sym, ap, ◌∙◌, arith}
use Rattle.std.proofs.Common.{w64, SFits, Result, Ok, Err, Some, None, MatchResult, le-ltb, lt-ltb, le-leb, eqb-true}
use borrow.Author.Tests.{lt-leb}
use mathlib.Core.Logic.{by_cases, ◌⊎◌, inl, inr}
use mathlib.Core.Option.{Option, none, some}
use native.Mathlib.Decide.{dec_lt}
use Rattle.std.specs.Char.{digit_value}
use Rattle.std.specs.Result.{result_ok, OkIff}
use denote.Ref.{Bor}
use Rattle.std.specs.Str.{IsUtf8, IsAscii}
use Rattle.std.specs.Str.Parse as std
use Rattle.std.specs.Str.Parse.{AllDigits, IsNumeral, digits_value_after, without_leading_plus, starts_with_minus, ParsesUnsigned, ParsesSigned}
use Rattle.std.proofs.lemmas.Str.{IsUtf8-from_ascii}
use Rattle.reference.specs.Options.{option_of}
use Rattle.reference.specs.Control.{◌and◌, when◌then◌else◌, let_some◌else◌then◌}
use Rattle.reference.specs.Text.{Text, bytes, starts_with, strip_prefix}
use Rattle.reference.specs.Numbers.{to_digit, digits_value, unsigned, read_u64, read_i64}
use Rattle.reference.proofs.Cases.{some_inj, none-some}
use Rattle.laws.proofs.Scans.{if-true, if-false}
use Rattle.std.proofs.lemmas.Str.Ascii.{IsAscii-cons}
use Rattle.numbers.proofs.Reading.{value, agrees, no_digit, a_digit}

-- ---- what `from_utf8` answered, where its `ok` is taken

module _ {E : Type 0} (s : Text) (place : E → Type 0) where
  abbrev Utf8 : Result (Bor Text) E → Type 0
  Utf8 r = MatchResult r (λ t. (t.now ≡ s) × IsUtf8 s) (λ e. (IsUtf8 s → ⊥) × place e)

  pub same_text : (r : Result (Bor Text) E) {t : Bor Text} → Some t ≡ result_ok r → Utf8 r → t.now ≡ s
  same_text (Ok y) e m = ap (λ (t : Bor Text). t.now) (some_inj (ap option_of e)) ∙ m.0
  same_text (Err d) e m = absurd (none-some (sym (ap option_of e)))

  pub no_text : (r : Result (Bor Text) E) → None ≡ result_ok r → Utf8 r → IsUtf8 s → ⊥
  no_text (Ok y) e m = absurd (none-some (ap option_of e))
  no_text (Err d) e m = m.0

-- ---- digits

module _ (radix : ℕ) (b : radix ≤ 36) where
  digit_in : (c : ℕ) → digit_value c < radix → some (digit_value c) ≡ to_digit radix c
  digit_in c h = let a = agrees c in let e : digit_value c ≡ value c = omega arith in a_digit radix c e h

  digit_out : (c : ℕ) → radix ≤ digit_value c → none ≡ to_digit radix c
  digit_out c h = let a = agrees c in no_digit radix c refl (omega arith)

  -- digits that spell a number, or that do not
  abbrev Spelled : ℕ → Text → Type 0
  Spelled n ds = (AllDigits radix ds × (digits_value radix n ds ≡ some (digits_value_after radix n ds))) ⊎ ((AllDigits radix ds → ⊥) × (digits_value radix n ds ≡ none))

  spelled : (n : ℕ) (ds : Text) → Spelled n ds
  unfolding digits_value let_some◌else◌then◌
  spelled n [] = inl (tt, refl)
  spelled n (c ∷ cs) =
      by_cases (dec_lt (digit_value c) radix)
      (λ l. in_front l (spelled (n * radix + digit_value c) cs))
      (λ l. inr (λ a. l a.0, rw (← digit_out c (omega arith)) refl))
    where
      in_front : digit_value c < radix → Spelled (n * radix + digit_value c) cs → Spelled n (c ∷ cs)
      in_front l (inl x) = inl ((l, x.0), rw (← digit_in c l) x.1)
      in_front l (inr x) = inr (λ a. x.0 a.1, rw (← digit_in c l) x.1)

  abbrev Numeral : Text → Type 0
  Numeral ds = (IsNumeral radix ds × (unsigned radix ds ≡ some (std.digits_value radix ds))) ⊎ ((IsNumeral radix ds → ⊥) × (unsigned radix ds ≡ none))

  numeral : (ds : Text) → Numeral ds
  unfolding unsigned
  numeral [] = inr (λ n. omega (arith, n.0), if-true _ _ refl)
  numeral (c ∷ cs) = by (spelled 0 (c ∷ cs))
    where
      by : Spelled 0 (c ∷ cs) → Numeral (c ∷ cs)
      by (inl x) = inl ((omega arith, x.0), if-false _ _ refl ∙ x.1)
      by (inr x) = inr (λ n. x.0 n.1, if-false _ _ refl ∙ x.1)

-- ---- digits are ASCII

letter_ascii : (c : ℕ) → digit_value c < 36 → c < 128
unfolding value
letter_ascii c h = by_cases (dec_lt c 128) (λ l. l) (λ l. absurd (omega (arith, large c (omega arith))))
  where
    large : (c : ℕ) → 128 ≤ c → digit_value c ≡ 36
    large c h =
        simp (
          le-ltb c 48 (omega arith),
          le-ltb c 58 (omega arith),
          le-ltb c 65 (omega arith),
          le-ltb c 91 (omega arith),
          le-ltb c 97 (omega arith),
          le-ltb c 123 (omega arith),
        ) refl

ascii : (radix : ℕ) → radix ≤ 36 → (ds : Text) → AllDigits radix ds → IsAscii ds
ascii radix b [] a = λ i. omega arith
ascii radix b (c ∷ cs) a = IsAscii-cons c cs (letter_ascii c (omega (arith, a.0))) (ascii radix b cs a.1)

-- ---- a sign in front

first-std : (s : Text) (b : ℕ) → eqb 0 b ≡ false → starts_with s (b ∷ []) ≡ eqb (slice_index s 0) b
unfolding ◌and◌
first-std [] b e = sym e
first-std (c ∷ s) b e = by (eqb c b)
  where
    by : (t : Bool) → (t and true) ≡ t
    by true = refl
    by false = refl

plus-cut : (s : Text) → (let_some (strip_prefix (bytes "+") s) else s then λ r. r) ≡ without_leading_plus s
unfolding strip_prefix let_some◌else◌then◌ when◌then◌else◌
plus-cut s = rw (first-std s 43 refl) (by (eqb (slice_index s 0) 43))
  where
    by : (t : Bool) → (let_some (when t then some (drop 1 s) else none) else s then λ r. r) ≡ drop (cond t 1 0) s
    by true = refl
    by false = refl

-- ---- at 64 bits without a sign

pub read_16 : {E : Type 0} (s : Text) (r : Result ℕ E) → ParsesUnsigned 64 16 s r → option_of (result_ok r) ≡ read_u64 16 s
unfolding read_u64 let_some◌else◌then◌ when◌then◌else◌
read_16 {E} s r p = rw (plus-cut s) (by r p (numeral 16 (omega arith) (without_leading_plus s)))
  where
    by : (r : Result ℕ E) → ParsesUnsigned 64 16 s r → Numeral 16 (omega arith) (without_leading_plus s)
        → option_of (result_ok r) ≡ (let_some (unsigned 16 (without_leading_plus s)) else none then λ n. when ltb n (2 ^ 64) then some n else none)
    by (Ok n) p (inl x) = rw (x.1, p.1) (sym (if-true _ _ (lt-ltb _ _ p.0.1)))
    by (Ok n) p (inr x) = absurd (x.0 p.0.0)
    by (Err e) p (inl x) =
        let v : ℕ = std.digits_value 16 (without_leading_plus s) in
        let l : 2 ^ 64 ≤ v = omega (arith, λ (l : v < 2 ^ 64). p (x.0, l)) in
        rw x.1 (sym (if-false _ _ (le-ltb v (2 ^ 64) l)))
    by (Err e) p (inr x) = rw x.1 refl

-- ---- at 64 bits with a sign

fits_negated : (n : ℕ) → n ≤ 2 ^ 63 → SFits w64 (neg_ℤ (pos n))
fits_negated zero h = record { sfits = omega arith }
fits_negated (suc n) h = record { sfits = omega arith }

negated_fits : (n : ℕ) → SFits w64 (neg_ℤ (pos n)) → n ≤ 2 ^ 63
negated_fits zero f = omega arith
negated_fits (suc n) f = omega (arith, f.sfits)

-- what stands behind a minus, and what has none in front
unfoldable negative : Text → Option ℤ
negative s = let_some (unsigned 10 s) else none then λ n. when leb n (2 ^ 63) then some (neg_ℤ (pos n)) else none

unfoldable positive : Text → Option ℤ
positive s = let_some (unsigned 10 s) else none then λ n. when ltb n (2 ^ 63) then some (pos n) else none

-- r is the number z where ds is a numeral and z fits, and else an error
abbrev Reads : {E : Type 0} → Text → ℤ → Result ℤ E → Type 0
Reads ds z r = OkIff r (IsNumeral 10 ds × SFits w64 z) z

module _ {E : Type 0} (ds : Text) where
  minus-std : (r : Result ℤ E) → Reads ds (neg_ℤ (pos (std.digits_value 10 ds))) r → Numeral 10 (omega arith) ds → option_of (result_ok r) ≡ negative ds
  unfolding negative let_some◌else◌then◌ when◌then◌else◌
  minus-std (Ok z) p (inl x) =
      let n : ℕ = std.digits_value 10 ds in
      rw (x.1, p.1) (sym (if-true _ _ (le-leb n (2 ^ 63) (negated_fits n p.0.1))))
  minus-std (Ok z) p (inr x) = absurd (x.0 p.0.0)
  minus-std (Err e) p (inl x) =
      let n : ℕ = std.digits_value 10 ds in
      let l : 2 ^ 63 < n = omega (arith, λ (l : n ≤ 2 ^ 63). p (x.0, fits_negated n l)) in
      rw x.1 (sym (if-false _ _ (lt-leb n (2 ^ 63) l)))
  minus-std (Err e) p (inr x) = rw x.1 refl

  plus-std : (r : Result ℤ E) → Reads ds (pos (std.digits_value 10 ds)) r → Numeral 10 (omega arith) ds → option_of (result_ok r) ≡ positive ds
  unfolding positive let_some◌else◌then◌ when◌then◌else◌
  plus-std (Ok z) p (inl x) =
      let n : ℕ = std.digits_value 10 ds in
      rw (x.1, p.1) (sym (if-true _ _ (lt-ltb n (2 ^ 63) (omega (arith, p.0.1.sfits)))))
  plus-std (Ok z) p (inr x) = absurd (x.0 p.0.0)
  plus-std (Err e) p (inl x) =
      let n : ℕ = std.digits_value 10 ds in
      let l : 2 ^ 63 ≤ n = omega (arith, λ (l : n < 2 ^ 63). p (x.0, record { sfits = l })) in
      rw x.1 (sym (if-false _ _ (le-ltb n (2 ^ 63) l)))
  plus-std (Err e) p (inr x) = rw x.1 refl

pub read_10 : {E : Type 0} (s : Text) (r : Result ℤ E) → ParsesSigned w64 10 s r → option_of (result_ok r) ≡ read_i64 s
unfolding read_i64 strip_prefix let_some◌else◌then◌ when◌then◌else◌ positive negative
read_10 {E} s r p = rw (plus-cut s, first-std s 45 refl) (by (starts_with_minus s) p)
  where
    digits_behind : Bool → Text
    digits_behind t = cond t (drop 1 s) (without_leading_plus s)

    by : (t : Bool) → Reads (digits_behind t) (cond t (neg_ℤ (pos (std.digits_value 10 (digits_behind t)))) (pos (std.digits_value 10 (digits_behind t)))) r
        → option_of (result_ok r) ≡ (let_some (when t then some (drop 1 s) else none) else positive (without_leading_plus s) then negative)
    by true p = minus-std (drop 1 s) r p (numeral 10 (omega arith) (drop 1 s))
    by false p = plus-std (without_leading_plus s) r p (numeral 10 (omega arith) (without_leading_plus s))

-- ---- a text that is no UTF-8

module _ (radix : ℕ) (b : radix ≤ 36) where
  signed_utf8 : (s : Text) (sign : ℕ) → eqb (slice_index s 0) sign ≡ true → sign < 128 → AllDigits radix (drop 1 s) → IsUtf8 s
  signed_utf8 [] sign e h a = IsUtf8-from_ascii [] (λ i. omega arith)
  signed_utf8 (c ∷ s) sign e h a = IsUtf8-from_ascii (c ∷ s) (IsAscii-cons c s (omega (arith, eqb-true c sign e)) (ascii radix b s a))

  plus_utf8 : (s : Text) → AllDigits radix (without_leading_plus s) → IsUtf8 s
  plus_utf8 s a = by (eqb (slice_index s 0) 43) refl a
    where
      by : (t : Bool) → eqb (slice_index s 0) 43 ≡ t → AllDigits radix (drop (cond t 1 0) s) → IsUtf8 s
      by true e a = signed_utf8 s 43 e (omega arith) a
      by false e a = IsUtf8-from_ascii s (ascii radix b s a)

module _ (s : Text) (u : IsUtf8 s → ⊥) where
  pub no_16 : none ≡ read_u64 16 s
  unfolding read_u64 let_some◌else◌then◌
  no_16 = rw (plus-cut s) (by (numeral 16 (omega arith) (without_leading_plus s)))
    where
      by : Numeral 16 (omega arith) (without_leading_plus s)
          → none ≡ (let_some (unsigned 16 (without_leading_plus s)) else none then λ n. when ltb n (2 ^ 64) then some n else none)
      by (inl x) = absurd (u (plus_utf8 16 (omega arith) s x.0.1))
      by (inr x) = rw x.1 refl

  pub no_10 : none ≡ read_i64 s
  unfolding read_i64 strip_prefix let_some◌else◌then◌ when◌then◌else◌ positive negative
  no_10 = rw (plus-cut s, first-std s 45 refl) (by (starts_with_minus s) refl)
    where
      minus : starts_with_minus s ≡ true → Numeral 10 (omega arith) (drop 1 s) → none ≡ negative (drop 1 s)
      minus e (inl x) = absurd (u (signed_utf8 10 (omega arith) s 45 e (omega arith) x.0.1))
      minus e (inr x) = rw x.1 refl

      plus : Numeral 10 (omega arith) (without_leading_plus s) → none ≡ positive (without_leading_plus s)
      plus (inl x) = absurd (u (plus_utf8 10 (omega arith) s x.0.1))
      plus (inr x) = rw x.1 refl

      by : (t : Bool) → starts_with_minus s ≡ t → none ≡ (let_some (when t then some (drop 1 s) else none) else positive (without_leading_plus s) then negative)
      by true e = minus e (numeral 10 (omega arith) (drop 1 s))
      by false e = plus (numeral 10 (omega arith) (without_leading_plus s))
