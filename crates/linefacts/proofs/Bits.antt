-- Bits of numbers: of what is joined by `|`, of a power of two, of the last 16, of what is turned by `^`. Assumes nothing.
use Prim.Native.Nat.{ℕ, zero, suc, ◌+◌, ◌-◌, ◌*◌, ◌/◌, ◌%◌, ◌^◌, ◌≤◌, ◌<◌, max}
use native.Mathlib.Omega.{arith}
use native.Mathlib.Nat.{max-le, le-max_left, le-max_right, div_self, one-mul}
use mathlib.Core.Path.{◌≡◌, refl, ap, ◌∙◌}
use mathlib.Core.Bool.{true}
use lib.Bits.{bit_or, bit_xor, differ, or_shr, or_step, xor_shr, xor_step}
use lib.Dec.{eqb}
use lib.Pow.{pow_pos, shl_exact, field, mod-mod-pow}
use borrow.Author.Tests.{eqb-true}
use Rattle.reference.specs.Control.{◌and◌}
use Rattle.names.proofs.Searches.{all-below, below_at}
use Rattle.lines.specs.Facts.{bit}

-- ---- the last bit

last_or : (a b : ℕ) → bit_or a b % 2 ≡ 0 → (a % 2 ≡ 0) × (b % 2 ≡ 0)
last_or a b e =
    let s = or_step a b in
    let m : max (a % 2) (b % 2) ≤ 1 = max-le (omega arith) (omega arith) in
    let z : max (a % 2) (b % 2) ≡ 0 = omega arith in
    (omega (arith, le-max_left (a % 2) (b % 2)), omega (arith, le-max_right (a % 2) (b % 2)))

turned : (d q : ℕ) → d < 2 → (q * 2 + differ d 1) % 2 ≡ 1 → d ≡ 0
turned zero q h e = refl
turned (suc zero) q h e = absurd (omega arith)
turned (suc (suc d)) q h e = absurd (omega arith)

-- ---- bit i

module _ (a b i : ℕ) (e : bit (bit_or a b) i ≡ 0) where
  pub or_left : bit a i ≡ 0
  unfolding bit
  or_left = (last_or (a / 2 ^ i) (b / 2 ^ i) (rw or_shr at e)).0

  pub or_right : bit b i ≡ 0
  unfolding bit
  or_right = (last_or (a / 2 ^ i) (b / 2 ^ i) (rw or_shr at e)).1

pub power_bit : (i : ℕ) → bit (2 ^ i) i ≡ 1
unfolding bit
power_bit i = ap (λ (x : ℕ). x % 2) (div_self (pow_pos i))

-- the last 16 bits
pub low_bit : (m i : ℕ) → i < 16 → bit (m % 65536) i ≡ bit m i
unfolding bit
low_bit m i h =
    let e : 15 - i + 1 + i ≡ 16 = omega arith in
    ap (λ (x : ℕ). x % 2) (rw e at (field m (15 - i + 1) i)) ∙ mod-mod-pow (m / 2 ^ i) (15 - i) 1

-- a number whose bits below k are set, by one test
pub set_below : (m k i : ℕ) → all-below k (λ i. eqb (bit m i) 1) ≡ true → i < k → bit m i ≡ 1
set_below m k i e h = eqb-true (bit m i) 1 (below_at k (λ i. eqb (bit m i) 1) i e h)

pub all_set : all-below 16 (λ i. eqb (bit 65535 i) 1) ≡ true
unfolding all-below bit ◌and◌
all_set = refl

pub turn_bit : (m i : ℕ) → i < 16 → bit (bit_xor m 65535) i ≡ 1 → bit m i ≡ 0
unfolding bit
turn_bit m i h e =
    let s : bit_xor m 65535 / 2 ^ i ≡ bit_xor (m / 2 ^ i / 2) (65535 / 2 ^ i / 2) * 2 + differ (m / 2 ^ i % 2) (65535 / 2 ^ i % 2) = xor_shr m 65535 i ∙ xor_step (m / 2 ^ i) (65535 / 2 ^ i) in
    turned (m / 2 ^ i % 2) (bit_xor (m / 2 ^ i / 2) (65535 / 2 ^ i / 2)) (omega arith) (rw (s, set_below 65535 16 i all_set h) at e)

-- one bit, as a shift makes it
pub one_shifted : (n : ℕ) → n < 15 → (1 * 2 ^ n) % 2 ^ 64 ≡ 2 ^ n
one_shifted n h = shl_exact {a = 1} 1 n 64 (omega arith) (omega arith) ∙ one-mul (2 ^ n)
