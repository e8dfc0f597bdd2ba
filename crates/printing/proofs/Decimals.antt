-- The decimal digits that `io` spells are those of the reference. Assumes nothing.
use Prim.Native.Nat.{ℕ, zero, suc, ◌+◌, ◌-◌, ◌*◌, ◌/◌, ◌%◌, ◌^◌, ◌≤◌, ◌<◌}
use native.Mathlib.Omega.{arith}
use native.Mathlib.Decide.{dec_le}
use native.Mathlib.Nat.{pow-suc, pow-le-pow_right, one-le-pow, le-div_iff_mul-le, div-lt_iff_lt-mul}
use mathlib.Core.Path.{◌≡◌, refl, sym, ap, ◌∙◌}
use mathlib.Core.Logic.{by_cases}
use mathlib.Core.Bool.{Bool, true, false, cond}
use mathlib.Core.List.{[], ◌∷◌, ◌++◌, append_assoc, append-nil}
use lib.Dec.{ltb}
use lib.ListN.{length}
use borrow.Author.Tests.{lt-ltb, le-ltb}
use Rattle.reference.specs.Control.{when◌then◌else◌}
use Rattle.reference.specs.Text.{Text}
use Rattle.reference.specs.Numbers.{digit_byte, digits}
use Rattle.reference.proofs.Cases.{by-if}
use Rattle.laws.proofs.Scans.{if-true, if-false}
use Rattle.io.specs.Digits.{hex_digit_ascii, last_digits as spelt, IsDigitCount}
use Rattle.printing.specs.Decimals.{decimal}

glyph_byte : (d : ℕ) → digit_byte d ≡ hex_digit_ascii d
unfolding when◌then◌else◌
glyph_byte d = step (ltb d 10)
  where
    step : (b : Bool) → (when b then 48 + d else 87 + d) ≡ cond b (48 + d) (87 + d)
    step true = refl
    step false = refl

-- k + 1 digits, where there is fuel for them
digits-spelt : (k f n : ℕ) (rest : Text) → k ≤ f → n < 10 ^ suc k → (0 < k → 10 ^ k ≤ n) → digits (suc f) 10 n rest ≡ spelt 10 (suc k) n ++ rest
unfolding digits
digits-spelt zero f n rest h l g = if-true _ _ (lt-ltb n 10 (omega arith)) ∙ ap (λ (d : ℕ). d ∷ rest) (glyph_byte (n % 10))
digits-spelt (suc k) zero n rest h l g = absurd (omega arith)
digits-spelt (suc k) (suc f) n rest h l g =
    let p : 10 ^ suc k ≤ n = g (omega arith) in
    let q : 10 ^ k * 10 ≤ n = rw (pow-suc 10 k) at p in
    if-false _ _ (le-ltb n 10 (omega (arith, one-le-pow k 10 (omega arith))))
    ∙ digits-spelt k f (n / 10) (digit_byte (n % 10) ∷ rest) (omega arith)
    ((div-lt_iff_lt-mul (omega arith)).1 (rw (pow-suc 10 (suc k)) at l)) (λ z. (le-div_iff_mul-le (omega arith)).1 q)
    ∙ ap (λ (d : ℕ). spelt 10 (suc k) (n / 10) ++ (d ∷ rest)) (glyph_byte (n % 10))
    ∙ sym (append_assoc (spelt 10 (suc k) (n / 10)) (hex_digit_ascii (n % 10) ∷ []) rest)

module _ (n : ℕ) {k : ℕ} (h : n < 2 ^ 64) (f : IsDigitCount 10 1 n k) where
  -- 20 digits hold every number of 64 bits
  pub few-digits : k ≤ 20
  few-digits =
      by_cases (dec_le k 20) (λ l. l)
      (λ l. absurd (omega (arith, f.2 (omega arith), pow-le-pow_right {n = 10} (omega arith) {i = 20} {j = k - 1} (omega arith))))

  pub decimal-spelt : spelt 10 k n ≡ decimal n
  unfolding decimal
  decimal-spelt =
      let e : k ≡ suc (k - 1) = omega arith in
      ap (λ (m : ℕ). spelt 10 m n) e
      ∙ sym (digits-spelt (k - 1) 19 n [] (omega (arith, few-digits)) (rw e at f.1) (λ z. f.2 (omega arith)) ∙ append-nil (spelt 10 (suc (k - 1)) n))

digits-length : (f n : ℕ) (rest : Text) → length (digits f 10 n rest) ≤ f + length rest
unfolding digits
digits-length zero n rest = omega arith
digits-length (suc f) n rest =
    by-if (λ (r : Text). length r ≤ suc f + length rest) (λ e. omega arith) (λ e. omega (arith, digits-length f (n / 10) (digit_byte (n % 10) ∷ rest)))

pub decimal-length : (n : ℕ) → length (decimal n) ≤ 20
unfolding decimal
decimal-length n = digits-length 20 n []
