-- What a fold prints is read back, and stands for the sum or difference modulo 2^64. Assumes nothing.
use Prim.Native.Nat.{ℕ, zero, suc, ◌+◌, ◌*◌, ◌-◌, ◌/◌, ◌%◌, ◌^◌, ◌<◌, ◌≤◌}
use native.Mathlib.Omega.{arith}
use native.Mathlib.Nat.{mod-mod, mod-eq_of_lt, add-mod-mod}
use native.Mathlib.Decide.{dec_lt}
use mathlib.Core.Path.{◌≡◌, refl, sym, ap, ◌∙◌}
use mathlib.Core.Logic.{by_cases}
use mathlib.Core.Bool.{true, false}
use mathlib.Core.List.{[], ◌∷◌}
use mathlib.Core.Option.{some}
use lib.Dec.{eqb}
use lib.IntN.{ℤ, pos, negsuc, neg_ℤ, sub_ℕ, ◌+ℤ◌, ◌-ℤ◌}
use borrow.Author.Tests.{lt-ltb, le-ltb, ltb-true, ltb-false, eq-eqb, ne_eqb}
use Rattle.reference.specs.Control.{not, ◌and◌, ◌or◌, when◌then◌else◌, let_some◌else◌then◌}
use Rattle.reference.specs.Lists.{any, count, is_empty}
use Rattle.reference.specs.Text.{Text, bytes, starts_with, strip_prefix}
use Rattle.reference.specs.Listing.{token, is, Number}
use Rattle.reference.specs.Numbers.{to_digit, digits_value, unsigned, read_u64, parse_c_number, digit_byte, digits, show_natural, show, wrap, as_i64}
use Rattle.reference.specs.Evaluators.{plus, minus, of_integer, is_tidy, number_of}
use Rattle.reference.proofs.Opened.{opened}
use Rattle.reference.proofs.Cases.{by-if, neither, true-false}
use Rattle.laws.proofs.Scans.{if-true, if-false, or_false, and_false}

-- ---- modulo 2^64

of_as : (n : ℕ) → of_integer (as_i64 n) ≡ n % 2 ^ 64
unfolding as_i64 of_integer
of_as n =
    by-if (λ (z : ℤ). of_integer z ≡ n % 2 ^ 64)
    (λ e. mod-mod n (2 ^ 64))
    (λ e. (let r : n % 2 ^ 64 < 2 ^ 64 = omega arith in
    let s : (2 ^ 64 - suc (n % 2 ^ 64)) % 2 ^ 64 ≡ 2 ^ 64 - suc (n % 2 ^ 64) = mod-eq_of_lt (omega arith) in
    rw s (omega arith)))

of_wrap : (z : ℤ) → of_integer (wrap z) ≡ of_integer z
unfolding wrap of_integer
of_wrap (pos n) = of_as n
of_wrap (negsuc n) = of_as (2 ^ 64 - suc (n % 2 ^ 64)) ∙ mod-eq_of_lt (omega arith)

pub of_below : (z : ℤ) → of_integer z < 2 ^ 64
unfolding of_integer
of_below (pos n) = omega arith
of_below (negsuc n) = omega arith

-- a difference of naturals
of_sub : (a b : ℕ) → of_integer (sub_ℕ a b) ≡ (a % 2 ^ 64 + (2 ^ 64 - b % 2 ^ 64)) % 2 ^ 64
unfolding of_integer
of_sub a b =
    by_cases (dec_lt a b)
    (λ h. rw (lt-ltb a b h) (omega arith))
    (λ h. rw (le-ltb a b (omega arith)) (omega arith))

of_add : (x y : ℤ) → of_integer (x +ℤ y) ≡ plus (of_integer x) (of_integer y)
unfolding of_integer plus
of_add (pos a) (pos b) = omega arith
of_add (pos a) (negsuc b) = of_sub a (suc b) ∙ omega arith
of_add (negsuc a) (pos b) = of_sub b (suc a) ∙ omega arith
of_add (negsuc a) (negsuc b) = omega arith

-- ---- a number printed and read back

record Digit (d : ℕ) : Type 0 where
  value : to_digit 16 (digit_byte d) ≡ some d
  no_plus : eqb 43 (digit_byte d) ≡ false
  no_minus : eqb 45 (digit_byte d) ≡ false

digit : (d : ℕ) → d < 16 → Digit d
unfolding to_digit when◌then◌else◌ ◌and◌
digit zero h = record { value = refl; no_plus = refl; no_minus = refl }
digit (suc zero) h = record { value = refl; no_plus = refl; no_minus = refl }
digit (suc (suc zero)) h = record { value = refl; no_plus = refl; no_minus = refl }
digit (suc (suc (suc zero))) h = record { value = refl; no_plus = refl; no_minus = refl }
digit (suc (suc (suc (suc zero)))) h = record { value = refl; no_plus = refl; no_minus = refl }
digit (suc (suc (suc (suc (suc zero))))) h = record { value = refl; no_plus = refl; no_minus = refl }
digit (suc (suc (suc (suc (suc (suc zero)))))) h = record { value = refl; no_plus = refl; no_minus = refl }
digit (suc (suc (suc (suc (suc (suc (suc zero))))))) h = record { value = refl; no_plus = refl; no_minus = refl }
digit (suc (suc (suc (suc (suc (suc (suc (suc zero)))))))) h = record { value = refl; no_plus = refl; no_minus = refl }
digit (suc (suc (suc (suc (suc (suc (suc (suc (suc zero))))))))) h = record { value = refl; no_plus = refl; no_minus = refl }
digit (suc (suc (suc (suc (suc (suc (suc (suc (suc (suc zero)))))))))) h = record { value = refl; no_plus = refl; no_minus = refl }
digit (suc (suc (suc (suc (suc (suc (suc (suc (suc (suc (suc zero))))))))))) h = record { value = refl; no_plus = refl; no_minus = refl }
digit (suc (suc (suc (suc (suc (suc (suc (suc (suc (suc (suc (suc zero)))))))))))) h = record { value = refl; no_plus = refl; no_minus = refl }
digit (suc (suc (suc (suc (suc (suc (suc (suc (suc (suc (suc (suc (suc zero))))))))))))) h = record { value = refl; no_plus = refl; no_minus = refl }
digit (suc (suc (suc (suc (suc (suc (suc (suc (suc (suc (suc (suc (suc (suc zero)))))))))))))) h = record { value = refl; no_plus = refl; no_minus = refl }
digit (suc (suc (suc (suc (suc (suc (suc (suc (suc (suc (suc (suc (suc (suc (suc zero))))))))))))))) h = record { value = refl; no_plus = refl; no_minus = refl }
digit (suc (suc (suc (suc (suc (suc (suc (suc (suc (suc (suc (suc (suc (suc (suc (suc n)))))))))))))))) h = absurd (omega arith)

module _ (n : ℕ) where
  -- n is written as its last digit behind the others
  one_more : (fuel : ℕ) (rest : Text) (P : Text → Type 0) → (n < 16 → P (digit_byte (n % 16) ∷ rest)) → P (digits fuel 16 (n / 16) (digit_byte (n % 16) ∷ rest))
      → P (digits (suc fuel) 16 n rest)
  unfolding digits
  one_more fuel rest P f g = by-if P (λ e. f (ltb-true n 16 e)) (λ e. g)

  last-digit : Digit (n % 16)
  last-digit = digit (n % 16) (omega arith)

digits-read : (fuel n : ℕ) (rest : Text) → n < 16 ^ fuel → digits_value 16 0 (digits fuel 16 n rest) ≡ digits_value 16 n rest
unfolding digits
digits-read zero n rest h = let e : 0 ≡ n = omega arith in ap (λ (m : ℕ). digits_value 16 m rest) e
digits-read (suc fuel) n rest h =
    one_more n fuel rest (λ s. digits_value 16 0 s ≡ digits_value 16 n rest)
    (λ l. step 0 (omega arith)) (digits-read fuel (n / 16) (digit_byte (n % 16) ∷ rest) (omega arith) ∙ step (n / 16) (omega arith))
  where
    step : (acc : ℕ) → acc * 16 + n % 16 ≡ n → digits_value 16 acc (digit_byte (n % 16) ∷ rest) ≡ digits_value 16 n rest
    step acc e = unfold digits_value let_some◌else◌then◌ in rw (last-digit n).value (ap (λ (m : ℕ). digits_value 16 m rest) e)

digits-plain : (fuel n : ℕ) (rest : Text) → any (eqb 43) (digits fuel 16 n rest) ≡ any (eqb 43) rest
unfolding digits
digits-plain zero n rest = refl
digits-plain (suc fuel) n rest =
    one_more n fuel rest (λ s. any (eqb 43) s ≡ any (eqb 43) rest)
    (λ l. or_false _ (last-digit n).no_plus) (digits-plain fuel (n / 16) (digit_byte (n % 16) ∷ rest) ∙ or_false _ (last-digit n).no_plus)

digits-unsigned : (fuel n : ℕ) (rest : Text) → count (eqb 45) (digits fuel 16 n rest) ≡ count (eqb 45) rest
unfolding digits
digits-unsigned zero n rest = refl
digits-unsigned (suc fuel) n rest =
    one_more n fuel rest (λ s. count (eqb 45) s ≡ count (eqb 45) rest)
    (λ l. if-false _ _ (last-digit n).no_minus) (digits-unsigned fuel (n / 16) (digit_byte (n % 16) ∷ rest) ∙ if-false _ _ (last-digit n).no_minus)

digits_some : (fuel n : ℕ) (c : ℕ) (rest : Text) → is_empty (digits fuel 16 n (c ∷ rest)) ≡ false
unfolding digits
digits_some zero n c rest = refl
digits_some (suc fuel) n c rest = one_more n fuel (c ∷ rest) (λ s. is_empty s ≡ false) (λ l. refl) (digits_some fuel (n / 16) (digit_byte (n % 16)) (c ∷ rest))

abbrev hex : ℕ → Text
hex n = digits 16 16 n []

hex_some : (n : ℕ) → is_empty (hex n) ≡ false
unfolding digits
hex_some n = one_more n 15 [] (λ s. is_empty s ≡ false) (λ l. refl) (digits_some 15 (n / 16) (digit_byte (n % 16)) [])

-- no plus in front
pub no_plus-front : (s : Text) → any (eqb 43) s ≡ false → starts_with s (bytes "+") ≡ false
no_plus-front [] e = refl
no_plus-front (c ∷ cs) e = and_false _ (ne_eqb c 43 (λ q. true-false (eq-eqb 43 c (sym q)) (neither e).0))

hex_read : (n : ℕ) → n < 2 ^ 64 → read_u64 16 (hex n) ≡ some n
unfolding read_u64 unsigned strip_prefix let_some◌else◌then◌ when◌then◌else◌
hex_read n h =
    rw (no_plus-front (hex n) (digits-plain 16 n []), hex_some n, digits-read 16 n [] (omega arith))
    (unfold digits_value in rw (lt-ltb n (2 ^ 64) h))

hex_tidy : (n : ℕ) → (is_tidy (48 ∷ 120 ∷ hex n) ≡ true) × (is_tidy (45 ∷ 48 ∷ 120 ∷ hex n) ≡ true)
unfolding is_tidy strip_prefix not ◌and◌ ◌or◌ when◌then◌else◌ let_some◌else◌then◌
hex_tidy n = (rw (digits-plain 16 n [], digits-unsigned 16 n []), rw (digits-plain 16 n [], digits-unsigned 16 n []))

as_low : (n : ℕ) → n < 2 ^ 63 → as_i64 n ≡ pos n
unfolding as_i64
as_low n h =
    let e : n % 2 ^ 64 ≡ n = mod-eq_of_lt (omega arith) in
    rw e (if-true _ _ (lt-ltb n (2 ^ 63) h))

as_high : (n : ℕ) → 2 ^ 63 ≤ n → n < 2 ^ 64 → as_i64 n ≡ negsuc (2 ^ 64 - suc n)
unfolding as_i64
as_high n l h =
    let e : n % 2 ^ 64 ≡ n = mod-eq_of_lt h in
    rw e (if-false _ _ (le-ltb n (2 ^ 63) l))

-- 2^63 as an i64 is its own negation
negated : (m : ℕ) → m < 2 ^ 63 → wrap (neg_ℤ (as_i64 (suc m))) ≡ negsuc m
unfolding wrap when◌then◌else◌
negated m h =
    by_cases (dec_lt (suc m) (2 ^ 63))
    (λ l.
    rw (as_low (suc m) l)
    (let e : m % 2 ^ 64 ≡ m = mod-eq_of_lt (omega arith) in
    rw e (as_high (2 ^ 64 - suc m) (omega arith) (omega arith) ∙ ap negsuc (omega arith))))
    (λ l. let e : m ≡ 2 ^ 63 - 1 = omega arith in rw e (unfold as_i64 in refl))

small-positive : (n : ℕ) → n < 10 → number_of (token Number (show (pos n))) ≡ some (pos n)
unfolding opened number_of is_tidy
small-positive zero h = refl
small-positive (suc zero) h = refl
small-positive (suc (suc zero)) h = refl
small-positive (suc (suc (suc zero))) h = refl
small-positive (suc (suc (suc (suc zero)))) h = refl
small-positive (suc (suc (suc (suc (suc zero))))) h = refl
small-positive (suc (suc (suc (suc (suc (suc zero)))))) h = refl
small-positive (suc (suc (suc (suc (suc (suc (suc zero))))))) h = refl
small-positive (suc (suc (suc (suc (suc (suc (suc (suc zero)))))))) h = refl
small-positive (suc (suc (suc (suc (suc (suc (suc (suc (suc zero))))))))) h = refl
small-positive (suc (suc (suc (suc (suc (suc (suc (suc (suc (suc n)))))))))) h = absurd (omega arith)

small-negative : (n : ℕ) → n < 9 → number_of (token Number (show (negsuc n))) ≡ some (negsuc n)
unfolding opened number_of is_tidy
small-negative zero h = refl
small-negative (suc zero) h = refl
small-negative (suc (suc zero)) h = refl
small-negative (suc (suc (suc zero))) h = refl
small-negative (suc (suc (suc (suc zero)))) h = refl
small-negative (suc (suc (suc (suc (suc zero))))) h = refl
small-negative (suc (suc (suc (suc (suc (suc zero)))))) h = refl
small-negative (suc (suc (suc (suc (suc (suc (suc zero))))))) h = refl
small-negative (suc (suc (suc (suc (suc (suc (suc (suc zero)))))))) h = refl
small-negative (suc (suc (suc (suc (suc (suc (suc (suc (suc n))))))))) h = absurd (omega arith)

large-positive : (n : ℕ) → 10 ≤ n → n < 2 ^ 63 → number_of (token Number (show (pos n))) ≡ some (pos n)
unfolding number_of is show show_natural parse_c_number strip_prefix let_some◌else◌then◌ when◌then◌else◌ ◌and◌
large-positive n l h =
    rw (le-ltb n 10 l, (hex_tidy n).0, hex_read n (omega arith)) (ap (λ (z : ℤ). some z) (as_low n h))

large-negative : (m : ℕ) → 9 ≤ m → m < 2 ^ 63 → number_of (token Number (show (negsuc m))) ≡ some (negsuc m)
unfolding number_of is show show_natural parse_c_number strip_prefix let_some◌else◌then◌ when◌then◌else◌ ◌and◌
large-negative m l h =
    rw (le-ltb (suc m) 10 (omega arith), (hex_tidy (suc m)).1, hex_read (suc m) (omega arith)) (ap (λ (z : ℤ). some z) (negated m h))

abbrev Ranged : ℤ → Type 0
Ranged (pos n) = n < 2 ^ 63
Ranged (negsuc n) = n < 2 ^ 63

as_ranged : (n : ℕ) → Ranged (as_i64 n)
unfolding as_i64
as_ranged n = by-if Ranged (λ e. ltb-true _ _ e) (λ e. omega (arith, ltb-false (n % 2 ^ 64) (2 ^ 63) e))

wrap_ranged : (z : ℤ) → Ranged (wrap z)
unfolding wrap
wrap_ranged (pos n) = as_ranged n
wrap_ranged (negsuc n) = as_ranged _

ranged_shown : (z : ℤ) → Ranged z → number_of (token Number (show z)) ≡ some z
ranged_shown (pos n) h = by_cases (dec_lt n 10) (small-positive n) (λ l. large-positive n (omega arith) h)
ranged_shown (negsuc n) h = by_cases (dec_lt n 9) (small-negative n) (λ l. large-negative n (omega arith) h)

pub shown : (z : ℤ) → number_of (token Number (show (wrap z))) ≡ some (wrap z)
shown z = ranged_shown (wrap z) (wrap_ranged z)

pub wrap-plus : (x y : ℤ) → of_integer (wrap (x +ℤ y)) ≡ plus (of_integer x) (of_integer y)
wrap-plus x y = of_wrap (x +ℤ y) ∙ of_add x y

of_neg : (y : ℤ) → of_integer (neg_ℤ y) ≡ (2 ^ 64 - of_integer y % 2 ^ 64) % 2 ^ 64
unfolding of_integer
of_neg (pos zero) = refl
of_neg (pos (suc n)) = omega arith
of_neg (negsuc n) = omega arith

pub wrap-minus : (x y : ℤ) → of_integer (wrap (x -ℤ y)) ≡ minus (of_integer x) (of_integer y)
unfolding plus minus
wrap-minus x y = of_wrap (x -ℤ y) ∙ of_add x (neg_ℤ y) ∙ ap (λ (n : ℕ). (of_integer x + n) % 2 ^ 64) (of_neg y) ∙ add-mod-mod _ _ _
