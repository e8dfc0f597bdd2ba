-- A PRINTED NUMBER IS READ BACK ALIKE BY BOTH EDITIONS: what a fold prints may fold again, under either. Assumes nothing.
use Prim.Native.Nat.{ℕ, zero, suc, ◌+◌, ◌*◌, ◌-◌, ◌/◌, ◌%◌, ◌^◌, ◌<◌, ◌≤◌}
use native.Mathlib.Omega.{arith}
use native.Mathlib.Nat.{mod-eq_of_lt, mod-lt, div-add-mod', pow-suc, pow-zero, div-lt_iff_lt-mul}
use native.Mathlib.Decide.{dec_lt}
use mathlib.Core.Path.{◌≡◌, refl, ap, ◌∙◌}
use mathlib.Core.Logic.{by_cases}
use mathlib.Core.Bool.{false}
use mathlib.Core.List.{[], ◌∷◌, ◌++◌}
use mathlib.Core.Option.{Option, none, some}
use lib.IntN.{ℤ, pos, negsuc, neg_ℤ}
use borrow.Author.Tests.{lt-ltb, le-ltb, le-leb, lt-leb, ltb-true, ltb-false}
use Rattle.reference.specs.Control.{◌and◌, ◌or◌, when◌then◌else◌, let_some◌else◌then◌}
use Rattle.reference.specs.Lists.{is_empty}
use Rattle.reference.specs.Text.{Text, bytes, starts_with}
use Rattle.reference.specs.Numbers.{to_digit, digits_value, as_i64, wrap, parse_c_number, prefix_size, constant_digits, value_limit, read_constant, parse_2024, read_number, digit_byte, digits}
use Rattle.reference.specs.Numbers.{show_natural, show}
use Rattle.reference.proofs.Opened.{opened}
use Rattle.reference.proofs.Cases.{by-if}
use Rattle.reference.proofs.Numerals.{read-hexadecimal, minus_0, minus_1, plain_1, negated, read-constant_is, unquoted-row, digits_without, base_0x}

-- ---- digits

-- the byte of a digit is that digit again
digit-back : (base d : ℕ) → d < base → base ≤ 16 → to_digit base (digit_byte d) ≡ some d
unfolding to_digit when◌then◌else◌ ◌and◌
digit-back base d h k =
    by_cases (dec_lt d 10)
    (λ l. rw (lt-ltb d 10 l, le-leb 48 (48 + d) (omega arith), le-leb (48 + d) 57 (omega arith)) (let e : 48 + d - 48 ≡ d = omega arith in rw (e, lt-ltb d base h) refl))
    (λ l. rw (le-ltb d 10 (omega arith), le-leb 48 (87 + d) (omega arith), lt-leb (87 + d) 57 (omega arith), le-leb 97 (87 + d) (omega arith), le-leb (87 + d) 122 (omega arith))
    (let e : 87 + d - 87 ≡ d = omega arith in rw (e, lt-ltb d base h) refl))

module _ (base : ℕ) (two : 2 ≤ base) (small : base ≤ 16) where
  -- one printed digit, read after the number `a`
  digit-read : (a d : ℕ) (rest : Text) → d < base → digits_value base a (digit_byte d ∷ rest) ≡ digits_value base (a * base + d) rest
  unfolding digits_value let_some◌else◌then◌
  digit-read a d rest h = rw (digit-back base d h small) refl

  digits-back : (fuel n : ℕ) (rest : Text) → n < base ^ fuel → digits_value base 0 (digits fuel base n rest) ≡ digits_value base n rest
  unfolding digits
  digits-back zero n rest h = let z : n ≡ 0 = omega (arith, rw pow-zero at h) in rw z refl
  digits-back (suc fuel) n rest h =
      let m : n % base < base = mod-lt n (omega arith) in
      by-if (λ (t : Text). digits_value base 0 t ≡ digits_value base n rest)
      (λ e. digit-read 0 (n % base) rest m ∙ ap (λ (k : ℕ). digits_value base k rest) (omega (arith, mod-eq_of_lt (ltb-true n base e))))
      (λ e. digits-back fuel (n / base) (digit_byte (n % base) ∷ rest) ((div-lt_iff_lt-mul (omega arith)).1 (rw pow-suc at h))
      ∙ digit-read (n / base) (n % base) rest m
      ∙ ap (λ (k : ℕ). digits_value base k rest) (div-add-mod' n base))

  pub filled : (fuel n c : ℕ) (rest : Text) → is_empty (digits fuel base n (c ∷ rest)) ≡ false
  unfolding digits
  filled zero n c rest = refl
  filled (suc fuel) n c rest = by-if (λ (t : Text). is_empty t ≡ false) (λ e. refl) (λ e. filled fuel (n / base) (digit_byte (n % base)) (c ∷ rest))

-- ---- hexadecimal digits

unfoldable pub hexadecimal : ℕ → Text
hexadecimal n = digits 16 16 n []

pub no_quote : to_digit 16 39 ≡ none
unfolding opened
no_quote = refl

module _ (n : ℕ) (h : n < 2 ^ 64) where
  pub comes_to : digits_value 16 0 (hexadecimal n) ≡ some n
  unfolding hexadecimal digits_value
  comes_to = digits-back 16 (omega arith) (omega arith) 16 n [] h

  pub some_digit : is_empty (hexadecimal n) ≡ false
  unfolding hexadecimal digits
  some_digit = by-if (λ (t : Text). is_empty t ≡ false) (λ e. refl) (λ e. filled 16 (omega arith) (omega arith) 15 (n / 16) (digit_byte (n % 16)) [])

  read_0 : parse_c_number (bytes "0x" ++ hexadecimal n) ≡ some (as_i64 n)
  unfolding when◌then◌else◌
  read_0 = read-hexadecimal (hexadecimal n) some_digit comes_to ∙ rw (lt-ltb n (2 ^ 64) h) refl

  digits_are : constant_digits (bytes "0x" ++ hexadecimal n) ≡ some (hexadecimal n)
  unfolding constant_digits prefix_size when◌then◌else◌ ◌or◌
  digits_are = rw (base_0x (hexadecimal n)) (unquoted-row (hexadecimal n) some_digit (digits_without 16 0 39 (hexadecimal n) no_quote comes_to))

  read_1 : read_constant (bytes "0x" ++ hexadecimal n) ≡ some (as_i64 n)
  unfolding value_limit when◌then◌else◌
  read_1 =
      read-constant_is (bytes "0x" ++ hexadecimal n) (hexadecimal n) {n = n} digits_are (rw (base_0x (hexadecimal n)) comes_to)
      ∙ rw (base_0x (hexadecimal n), lt-ltb n (2 ^ 64) h) refl

-- ---- a number without a sign

-- both editions read the text s as z, and it has no sign
record Both (s : Text) (z : ℤ) : Type 0 where
  in_0 : parse_c_number s ≡ some z
  in_1 : read_constant s ≡ some z
  plain : starts_with s (bytes "-") ≡ false

-- what holds of each number below k
abbrev Below : (ℕ → Type 0) → ℕ → Type 0
Below P zero = Unit {0}
Below P (suc k) = P k × Below P k

below : (P : ℕ → Type 0) (k : ℕ) → Below P k → (n : ℕ) → n < k → P n
below P zero b n h = absurd (omega arith)
below P (suc k) b n h = by_cases (dec_lt n k) (below P k b.1 n) (λ l. (let e : n ≡ k = omega arith in rw e b.0))

one_digit : (n : ℕ) → n < 10 → Both (show_natural n) (as_i64 n)
unfolding opened
one_digit =
    below (λ n. Both (show_natural n) (as_i64 n)) 10 (
      record { in_0 = refl; in_1 = refl; plain = refl },
      (
        record { in_0 = refl; in_1 = refl; plain = refl },
        (
          record { in_0 = refl; in_1 = refl; plain = refl },
          (
            record { in_0 = refl; in_1 = refl; plain = refl },
            (
              record { in_0 = refl; in_1 = refl; plain = refl },
              (
                record { in_0 = refl; in_1 = refl; plain = refl },
                (
                  record { in_0 = refl; in_1 = refl; plain = refl },
                  (
                    record { in_0 = refl; in_1 = refl; plain = refl },
                    (
                      record { in_0 = refl; in_1 = refl; plain = refl },
                      (
                        record { in_0 = refl; in_1 = refl; plain = refl },
                        tt,
                      ),
                    ),
                  ),
                ),
              ),
            ),
          ),
        ),
      ),
    )

larger : (n : ℕ) → 10 ≤ n → show_natural n ≡ bytes "0x" ++ hexadecimal n
unfolding show_natural when◌then◌else◌ hexadecimal
larger n h = rw (le-ltb n 10 h) refl

natural : (n : ℕ) → n < 2 ^ 64 → Both (show_natural n) (as_i64 n)
unfolding ◌and◌
natural n h =
    by_cases (dec_lt n 10) (one_digit n)
    (λ l. rw (larger n (omega arith)) (record { in_0 = read_0 n h; in_1 = read_1 n h; plain = refl }))

-- ---- with one

low : (n : ℕ) → n < 2 ^ 63 → as_i64 n ≡ pos n
unfolding as_i64 when◌then◌else◌
low n h = let e : n % 2 ^ 64 ≡ n = mod-eq_of_lt (omega arith) in rw (e, lt-ltb n (2 ^ 63) h) refl

high : (n : ℕ) → 2 ^ 63 ≤ n → n < 2 ^ 64 → as_i64 n ≡ negsuc (2 ^ 64 - suc n)
unfolding as_i64 when◌then◌else◌
high n l h = let e : n % 2 ^ 64 ≡ n = mod-eq_of_lt h in rw (e, le-ltb n (2 ^ 63) l) refl

-- the negation of the 64 bits of n + 1
opposite : (n : ℕ) → n < 2 ^ 63 → wrap (neg_ℤ (as_i64 (suc n))) ≡ negsuc n
unfolding opened
opposite n h =
    by_cases (dec_lt (suc n) (2 ^ 63))
    (λ l.
    let e : n % 2 ^ 64 ≡ n = mod-eq_of_lt (omega arith) in
    rw (low (suc n) l, e) (high (2 ^ 64 - suc n) (omega arith) (omega arith) ∙ ap negsuc (omega arith)))
    (λ l. let e : n ≡ 2 ^ 63 - 1 = omega arith in rw e refl)

-- both editions, and so each
by_edition : (s : Text) {z : ℤ} → parse_c_number s ≡ some z → parse_2024 s ≡ some z → (edition : ℕ) → read_number edition s ≡ some z
unfolding read_number
by_edition s {z} f g edition = by-if (λ (o : Option ℤ). o ≡ some z) (λ e. f) (λ e. g)

positive : (edition n : ℕ) → n < 2 ^ 63 → read_number edition (show (pos n)) ≡ some (pos n)
unfolding show
positive edition n h =
    let b = natural n (omega arith) in
    by_edition (show_natural n) (b.in_0 ∙ ap some (low n h)) (plain_1 (show_natural n) b.plain ∙ b.in_1 ∙ ap some (low n h)) edition

minus : (n : ℕ) {o : Option ℤ} → n < 2 ^ 63 → o ≡ some (as_i64 (suc n)) → negated o ≡ some (negsuc n)
unfolding negated let_some◌else◌then◌
minus n h e = rw e (ap some (opposite n h))

negative : (edition n : ℕ) → n < 2 ^ 63 → read_number edition (show (negsuc n)) ≡ some (negsuc n)
unfolding show
negative edition n h =
    let b = natural (suc n) (omega arith) in
    by_edition (bytes "-" ++ show_natural (suc n))
    (minus_0 (show_natural (suc n)) b.plain ∙ minus n h b.in_0)
    (minus_1 (show_natural (suc n)) ∙ minus n h b.in_1)
    edition

-- ---- THE THEOREM: a number of 64 bits, printed, is read back by each edition

wrapped : (edition n : ℕ) → read_number edition (show (as_i64 n)) ≡ some (as_i64 n)
unfolding as_i64
wrapped edition n =
    let h : n % 2 ^ 64 < 2 ^ 64 = mod-lt n (omega arith) in
    by-if (λ (z : ℤ). read_number edition (show z) ≡ some z)
    (λ e. positive edition (n % 2 ^ 64) (ltb-true (n % 2 ^ 64) (2 ^ 63) e))
    (λ e. negative edition (2 ^ 64 - suc (n % 2 ^ 64)) (omega (arith, ltb-false (n % 2 ^ 64) (2 ^ 63) e)))

pub printed_is_read : (edition : ℕ) (z : ℤ) → read_number edition (show (wrap z)) ≡ some (wrap z)
unfolding wrap
printed_is_read edition (pos n) = wrapped edition n
printed_is_read edition (negsuc n) = wrapped edition (2 ^ 64 - suc (n % 2 ^ 64))
