-- Signed numbers of 64 bits: what the code computes is what the definitions `as_i64` and `wrap` say. Assumes nothing.
use Rattle.std.proofs.Common.{◌≡◌, ℕ, suc, ◌+◌, ◌-◌, ◌%◌, ◌^◌, ◌<◌, ◌≤◌, ℤ, pos, negsuc, ◌+ℤ◌, ◌-ℤ◌, neg_ℤ, sym, refl, ap}
use Rattle.std.proofs.Common.{◌∙◌, mod-lt, mod-eq_of_lt, arith, w64, SFits, to_z, of_z, le-ltb}
use Rattle.std.proofs.Common.{lt-ltb}
use native.Mathlib.Nat.{mod-mod}
use native.Mathlib.Decide.{dec_lt}
use mathlib.Core.Logic.{by_cases}
use lib.IntN.{+ℤ_idl}
use lib.Signed.{mag}
use mir.ValLaws.{to_z-of_z, to_z_pos}
use Rattle.reference.specs.Numbers.{as_i64, wrap}
use Rattle.laws.proofs.Scans.{if-true, if-false}
use Rattle.numbers.specs.Bits.{bits_of}
use Rattle.std.specs.Int.{cast_signed, cast_unsigned, int_wrap, int_wrapping_add, int_wrapping_sub, int_wrapping_neg}
use Rattle.numbers.proofs.Bits.{bits_below, bits_add, bits_sub}

-- ---- `as i64`

pub as_low : (n : ℕ) → n < 2 ^ 63 → as_i64 n ≡ pos n
unfolding as_i64
as_low n h =
    let e : n % 2 ^ 64 ≡ n = mod-eq_of_lt (omega arith) in
    rw e (if-true _ _ (lt-ltb n (2 ^ 63) h))

pub as_high : (n : ℕ) → 2 ^ 63 ≤ n → n < 2 ^ 64 → as_i64 n ≡ negsuc (2 ^ 64 - suc n)
unfolding as_i64
as_high n l h =
    let e : n % 2 ^ 64 ≡ n = mod-eq_of_lt h in
    rw e (if-false _ _ (le-ltb n (2 ^ 63) l))

pub as_bits : (z : ℤ) → SFits w64 z → as_i64 (bits_of 64 z) ≡ z
unfolding bits_of
as_bits (pos n) f = let e : n % 2 ^ 64 ≡ n = mod-eq_of_lt (omega arith) in rw e (as_low n f.sfits)
as_bits (negsuc n) f =
    let e : n % 2 ^ 64 ≡ n = mod-eq_of_lt (omega arith) in
    rw e (as_high (2 ^ 64 - suc n) (omega arith) (omega arith) ∙ ap negsuc (omega arith))

pub wrap_bits : (z : ℤ) → wrap z ≡ as_i64 (bits_of 64 z)
unfolding wrap as_i64 bits_of
wrap_bits (pos n) = rw (mod-mod n (2 ^ 64))
wrap_bits (negsuc n) = refl

-- ---- what the code computes with

-- what a call answered, as the machine reads it back from its bits
pub read_back : (z : ℤ) → mag z < 2 ^ 63 → to_z w64 (of_z w64 z) ≡ z
read_back z h = to_z-of_z w64 z (record { sfits = h })

-- a parameter, as the machine reads it back from its bits
module _ (v : ℤ) (f : SFits w64 v) where
  kept : to_z w64 (of_z w64 v) ≡ v
  kept = to_z-of_z w64 v f

-- ---- std's words

to_z_high : (n : ℕ) → 2 ^ 63 ≤ n → n < 2 ^ 64 → cast_signed w64 n ≡ negsuc (2 ^ 64 - suc n)
to_z_high n l h = ap (cast_signed w64) (omega arith) ∙ to_z-of_z w64 (negsuc (2 ^ 64 - suc n)) (record { sfits = omega arith })

pub signed-std : (n : ℕ) → n < 2 ^ 64 → cast_signed w64 n ≡ as_i64 n
signed-std n h =
    by_cases (dec_lt n (2 ^ 63))
    (λ l. to_z_pos w64 n l ∙ sym (as_low n l))
    (λ l. to_z_high n (omega arith) h ∙ sym (as_high n (omega arith) h))

-- what std wraps at 64 bits, for any number; what the code computes goes through the bits, below
pub wrap-std : (z : ℤ) → int_wrap w64 z ≡ wrap z
unfolding int_wrap wrap as_i64
wrap-std (pos n) = signed-std (n % 2 ^ 64) (mod-lt n (omega arith)) ∙ rw (mod-mod n (2 ^ 64))
wrap-std (negsuc n) = ap (cast_signed w64) (omega arith) ∙ signed-std (2 ^ 64 - suc (n % 2 ^ 64)) (omega arith)

-- ---- sums, differences and negations, through the bits: of any width (Bits), and here of 64

bits-std : (z : ℤ) → SFits w64 z → cast_unsigned w64 z ≡ bits_of 64 z
unfolding bits_of
bits-std (pos n) f = sym (mod-eq_of_lt (omega arith))
bits-std (negsuc n) f = let e : n % 2 ^ 64 ≡ n = mod-eq_of_lt (omega arith) in rw e (omega arith)

-- a number that has the bits of z, read as std reads it, is z wrapped
from_bits : (z : ℤ) (x : ℕ) → x ≡ bits_of 64 z → cast_signed w64 x ≡ wrap z
from_bits z x e = ap (cast_signed w64) e ∙ signed-std (bits_of 64 z) (bits_below 64 z) ∙ sym (wrap_bits z)

-- what std subtracts, and what is added to it again
less_and_more : (p q : ℕ) → p < 2 ^ 64 → q < 2 ^ 64 → ((p + (2 ^ 64 - q)) % 2 ^ 64 + q) % 2 ^ 64 ≡ p
less_and_more p q f g =
    by_cases (dec_lt p q)
    (λ l.
    let e : (p + (2 ^ 64 - q)) % 2 ^ 64 ≡ p + (2 ^ 64 - q) = mod-eq_of_lt (omega arith) in
    omega (arith, e))
    (λ l. omega arith)

module _ (a b : ℤ) (f : SFits w64 a) (g : SFits w64 b) where
  pub sum_wraps : int_wrapping_add w64 a b ≡ wrap (a +ℤ b)
  sum_wraps = from_bits (a +ℤ b) ((cast_unsigned w64 a + cast_unsigned w64 b) % 2 ^ 64) (rw (bits-std a f, bits-std b g) (sym (bits_add 64 a b)))

  pub difference-wraps : int_wrapping_sub w64 a b ≡ wrap (a -ℤ b)
  difference-wraps =
      from_bits (a -ℤ b) ((cast_unsigned w64 a + (2 ^ 64 - cast_unsigned w64 b)) % 2 ^ 64)
      (rw (bits-std a f, bits-std b g)
      (bits_sub 64 a b _ (mod-lt _ (omega arith)) (less_and_more (bits_of 64 a) (bits_of 64 b) (bits_below 64 a) (bits_below 64 b))))

pub negation_wraps : (v : ℤ) → SFits w64 v → int_wrapping_neg w64 (to_z w64 (of_z w64 v)) ≡ wrap (neg_ℤ v)
negation_wraps v f =
    let e : 2 ^ 64 - cast_unsigned w64 v ≡ 0 + (2 ^ 64 - cast_unsigned w64 v) = omega arith in
    ap (int_wrapping_neg w64) (kept v f)
    ∙ ap (λ (k : ℕ). cast_signed w64 (k % 2 ^ 64)) e
    ∙ difference-wraps (pos 0) v (record { sfits = omega arith }) f
    ∙ ap wrap (+ℤ_idl (neg_ℤ v))
