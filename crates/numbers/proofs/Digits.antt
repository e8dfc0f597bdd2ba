-- The digits of a number, and what a printed number is made of. Assumes nothing.
use Rattle.std.proofs.Common.{◌≡◌, ℕ, zero, suc, ◌+◌, ◌/◌, ◌%◌, ◌^◌, ◌<◌, ◌≤◌, [], ◌∷◌, ◌++◌, length, sym, refl, ap, ◌∙◌, append_assoc, mod-eq_of_lt, div-lt_iff_lt-mul, one-mul, pow-suc, arith}
use Rattle.std.proofs.Common.{length-append, le-ltb, lt-ltb}
use native.Mathlib.Nat.{pow-zero}
use native.Mathlib.Decide.{dec_lt}
use mathlib.Core.Logic.{by_cases}
use Rattle.reference.specs.Text.{Text}
use Rattle.reference.specs.Numbers.{digit_byte, digits, show_natural}
use Rattle.laws.proofs.Scans.{if-true, if-false}
use Rattle.numbers.specs.Writing.{hexadecimal}

-- ---- digits to any base

module _ (b : ℕ) where
  one_digit : (f n : ℕ) (rest : Text) → n < b → digits (suc f) b n rest ≡ digit_byte (n % b) ∷ rest
  unfolding digits
  one_digit f n rest h = if-true _ _ (lt-ltb n b h)

  more_digits : (f n : ℕ) (rest : Text) → b ≤ n → digits (suc f) b n rest ≡ digits f b (n / b) (digit_byte (n % b) ∷ rest)
  unfolding digits
  more_digits f n rest h = if-false _ _ (le-ltb n b h)

  -- the digits in front of what follows
  digits-front : (f n : ℕ) (rest : Text) → digits f b n rest ≡ digits f b n [] ++ rest
  unfolding digits
  digits-front zero n rest = refl
  digits-front (suc f) n rest =
      by_cases (dec_lt n b)
      (λ h. one_digit f n rest h ∙ ap (λ (s : Text). s ++ rest) (sym (one_digit f n [] h)))
      (λ h.
      let l : b ≤ n = omega arith in
      more_digits f n rest l
      ∙ digits-front f (n / b) (digit_byte (n % b) ∷ rest)
      ∙ sym (append_assoc (digits f b (n / b) []) (digit_byte (n % b) ∷ []) rest)
      ∙ ap (λ (s : Text). s ++ rest) (sym (digits-front f (n / b) (digit_byte (n % b) ∷ [])) ∙ sym (more_digits f n [] l)))

  -- fuel that is enough gives what more gives
  digits-fuel : 0 < b → (f n : ℕ) (rest : Text) → n < b ^ suc f → digits (suc (suc f)) b n rest ≡ digits (suc f) b n rest
  digits-fuel p zero n rest h =
      let l : n < b = rw (pow-suc, pow-zero, one-mul) at h in
      one_digit 1 n rest l ∙ sym (one_digit 0 n rest l)
  digits-fuel p (suc f) n rest h =
      by_cases (dec_lt n b)
      (λ l. one_digit (suc (suc f)) n rest l ∙ sym (one_digit (suc f) n rest l))
      (λ l.
      more_digits (suc (suc f)) n rest (omega arith)
      ∙ digits-fuel p f (n / b) (digit_byte (n % b) ∷ rest) ((div-lt_iff_lt-mul p).1 (rw pow-suc at h))
      ∙ sym (more_digits (suc f) n rest (omega arith)))

-- ---- hexadecimal digits

module _ (v : ℕ) where
  pub hexadecimal_one : v < 16 → hexadecimal v ≡ digit_byte (v % 16) ∷ []
  unfolding hexadecimal
  hexadecimal_one h = one_digit 16 15 v [] h

  pub hexadecimal_more : 16 ≤ v → v < 2 ^ 64 → hexadecimal v ≡ hexadecimal (v / 16) ++ (digit_byte (v % 16) ∷ [])
  unfolding hexadecimal
  hexadecimal_more l h =
      more_digits 16 15 v [] l
      ∙ sym (digits-fuel 16 (omega arith) 14 (v / 16) (digit_byte (v % 16) ∷ []) (omega arith))
      ∙ digits-front 16 16 (v / 16) (digit_byte (v % 16) ∷ [])

  pub longer : 16 ≤ v → v < 2 ^ 64 → length (hexadecimal v) ≡ length (hexadecimal (v / 16)) + 1
  longer l h = ap length (hexadecimal_more l h) ∙ simp length-append

  -- ---- the parts of a printed number

  pub natural_small : v < 10 → show_natural v ≡ hexadecimal v
  unfolding show_natural
  natural_small h =
      if-true _ _ (lt-ltb v 10 h)
      ∙ one_digit 10 15 v [] h
      ∙ ap (λ (n : ℕ). digit_byte n ∷ []) (mod-eq_of_lt h ∙ sym (mod-eq_of_lt (omega arith)))
      ∙ sym (hexadecimal_one (omega arith))

  pub natural_large : 10 ≤ v → show_natural v ≡ (48 ∷ 120 ∷ []) ++ hexadecimal v
  unfolding show_natural hexadecimal
  natural_large h = if-false _ _ (le-ltb v 10 h)
