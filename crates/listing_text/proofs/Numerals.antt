-- Digits that are written read back as their number, and hold no tab and no newline. Assumes nothing.
use Prim.Native.Nat.{ℕ, zero, suc, ◌+◌, ◌*◌, ◌/◌, ◌%◌, ◌^◌, ◌≤◌, ◌<◌}
use native.Mathlib.Omega.{arith}
use native.Mathlib.Nat.{pow-suc, div-lt_iff_lt-mul}
use native.Mathlib.Decide.{dec_lt}
use mathlib.Core.Path.{◌≡◌, refl, ap, ◌∙◌}
use mathlib.Core.Logic.{by_cases}
use mathlib.Core.Bool.{Bool, true, false}
use mathlib.Core.List.{[], ◌∷◌, ◌++◌}
use mathlib.Core.Option.{Option, none, some}
use lib.Dec.{leb}
use lib.ListN.{length, length-append}
use borrow.Author.Tests.{lt-ltb, le-ltb, lt-leb, ne_eqb}
use Rattle.reference.specs.Control.{when◌then◌else◌}
use Rattle.reference.specs.Text.{Text}
use Rattle.reference.specs.Numbers as Numbers
use Rattle.reference.proofs.Cases.{none-some}
use Rattle.laws.proofs.Scans.{if-true, if-false}
use Rattle.io.specs.Digits.{hex_digit_ascii, last_digits}
use Rattle.printing.specs.Decimals.{decimal}
use Rattle.words.specs.Numerals.{digit, digits_from, number_in}
use Rattle.listing_text.specs.Forms.{hexadecimal}
use Rattle.listing_text.proofs.Parts.{Without}

-- ---- bytes above the tab and the newline

abbrev pub Above : Text → Type 0
Above [] = Unit {0}
Above (x ∷ t) = (11 ≤ x) × Above t

pub above_append : (s t : Text) → Above s → Above t → Above (s ++ t)
above_append [] t a b = b
above_append (x ∷ s) t a b = (a.0, above_append s t a.1 b)

-- the byte b stands nowhere in a text
abbrev pub Avoids : ℕ → Text → Type 0
Avoids b [] = Unit {0}
Avoids b (x ∷ t) = (x ≡ b → ⊥) × Avoids b t

pub avoids_append : (b : ℕ) (s t : Text) → Avoids b s → Avoids b t → Avoids b (s ++ t)
avoids_append b [] t a c = c
avoids_append b (x ∷ s) t a c = (a.0, avoids_append b s t a.1 c)

pub above_avoids : (b : ℕ) (t : Text) → b ≤ 10 → Above t → Avoids b t
above_avoids b [] l a = tt
above_avoids b (x ∷ t) l a = (λ e. omega (arith, a.0), above_avoids b t l a.1)

pub avoids_without : (b : ℕ) (t : Text) → Avoids b t → Without b t
avoids_without b [] a i h e = absurd (omega arith)
avoids_without b (x ∷ t) a zero h e = a.0 e
avoids_without b (x ∷ t) a (suc i) h e = avoids_without b t a.1 i (omega arith) e

pub above_without : (b : ℕ) (t : Text) → b ≤ 10 → Above t → Without b t
above_without b t l a = avoids_without b t (above_avoids b t l a)

-- ---- a digit

module _ (d : ℕ) where
  low_digit : d < 10 → digit (48 + d) ≡ d
  unfolding digit
  low_digit h =
      if-false _ _ (le-ltb (48 + d) 48 (omega arith)) ∙ if-true _ _ (lt-ltb (48 + d) 58 (omega arith)) ∙ omega arith

  high_digit : 10 ≤ d → d < 16 → digit (87 + d) ≡ d
  unfolding digit
  high_digit l h =
      if-false _ _ (le-ltb (87 + d) 48 (omega arith)) ∙ if-false _ _ (le-ltb (87 + d) 58 (omega arith))
      ∙ if-false _ _ (le-ltb (87 + d) 65 (omega arith)) ∙ if-false _ _ (le-ltb (87 + d) 71 (omega arith))
      ∙ if-false _ _ (le-ltb (87 + d) 97 (omega arith)) ∙ if-true _ _ (lt-ltb (87 + d) 103 (omega arith)) ∙ omega arith

  low_glyph : d < 10 → hex_digit_ascii d ≡ 48 + d
  low_glyph h = rw (lt-ltb d 10 h)

  high_glyph : 10 ≤ d → hex_digit_ascii d ≡ 87 + d
  high_glyph h = rw (le-ltb d 10 h)

  glyph_digit : d < 16 → digit (hex_digit_ascii d) ≡ d
  glyph_digit h =
      by_cases (dec_lt d 10) (λ l. ap digit (low_glyph l) ∙ low_digit l)
      (λ l. ap digit (high_glyph (omega arith)) ∙ high_digit (omega arith) h)

  glyph_above : 11 ≤ hex_digit_ascii d
  glyph_above = by_cases (dec_lt d 10) (λ l. omega (arith, low_glyph l)) (λ l. omega (arith, high_glyph (omega arith)))

-- ---- hexadecimal digits

more_after : {o p : Option ℕ} {w u : ℕ} (b : Bool) → (o ≡ some w → p ≡ some u) → (when b then none else o) ≡ some w → (when b then none else p) ≡ some u
unfolding when◌then◌else◌
more_after true f e = absurd (none-some e)
more_after false f e = f e

-- one digit more
more_digit : (v w : ℕ) (s : Text) (c : ℕ) → digits_from 16 v s ≡ some w → digit c < 16 → digits_from 16 v (s ++ (c ∷ [])) ≡ some (w * 16 + digit c)
unfolding digits_from
more_digit v w [] c e h =
    let same : v ≡ w = (let z = e in cc) in
    if-false _ _ (lt-leb 16 (digit c) h) ∙ ap (λ (k : ℕ). some (k * 16 + digit c)) same
more_digit v w (x ∷ s) c e h = more_after (leb 16 (digit x)) (λ f. more_digit (v * 16 + digit x) w s c f h) e

hex_value : (k n : ℕ) → n < 16 ^ k → digits_from 16 0 (last_digits 16 k n) ≡ some n
unfolding digits_from
hex_value zero n h = ap some (omega arith)
hex_value (suc k) n h =
    let front : digits_from 16 0 (last_digits 16 k (n / 16)) ≡ some (n / 16) = hex_value k (n / 16) ((div-lt_iff_lt-mul (omega arith)).1 (rw (pow-suc 16 k) at h)) in
    let d : digit (hex_digit_ascii (n % 16)) ≡ n % 16 = glyph_digit (n % 16) (omega arith) in
    more_digit 0 (n / 16) (last_digits 16 k (n / 16)) (hex_digit_ascii (n % 16)) front (omega (arith, d)) ∙ ap some (omega (arith, d))

hex_length : (k n : ℕ) → length (last_digits 16 k n) ≡ k
hex_length zero n = refl
hex_length (suc k) n = length-append (last_digits 16 k (n / 16)) (hex_digit_ascii (n % 16) ∷ []) ∙ omega (arith, hex_length k (n / 16))

hex_above : (k n : ℕ) → Above (last_digits 16 k n)
hex_above zero n = tt
hex_above (suc k) n = above_append (last_digits 16 k (n / 16)) (hex_digit_ascii (n % 16) ∷ []) (hex_above k (n / 16)) (glyph_above (n % 16), tt)

module _ (n : ℕ) where
  pub sixteen-long : length (hexadecimal 16 n) ≡ 16
  unfolding hexadecimal
  sixteen-long = hex_length 16 n

  pub sixteen-above : Above (hexadecimal 16 n)
  unfolding hexadecimal
  sixteen-above = hex_above 16 n

  pub sixteen-reads : n < 16 ^ 16 → number_in 16 (hexadecimal 16 n) ≡ some n
  unfolding number_in
  sixteen-reads h =
      if-false _ _ (ne_eqb (length (hexadecimal 16 n)) 0 (λ z. omega (arith, sixteen-long)))
      ∙ if-false _ _ (le-ltb 16 (length (hexadecimal 16 n)) (omega (arith, sixteen-long)))
      ∙ (unfold hexadecimal in hex_value 16 n h)

-- ---- decimal digits of an indent

module _ (n : ℕ) where
  one_digit : n < 10 → decimal n ≡ (48 + n) ∷ []
  unfolding decimal Numbers.digits when◌then◌else◌
  one_digit h =
      let m : n % 10 ≡ n = omega arith in
      rw (lt-ltb n 10 h, m, lt-ltb n 10 h)

  two_digits : 10 ≤ n → n < 100 → decimal n ≡ (48 + n / 10) ∷ (48 + n % 10) ∷ []
  unfolding decimal Numbers.digits when◌then◌else◌
  two_digits l h =
      let m : n / 10 % 10 ≡ n / 10 = omega arith in
      rw (le-ltb n 10 l, lt-ltb (n / 10) 10 (omega arith), m, lt-ltb (n / 10) 10 (omega arith), lt-ltb (n % 10) 10 (omega arith))

  pub indent-reads : n < 100 → number_in 10 (decimal n) ≡ some n
  unfolding number_in digits_from when◌then◌else◌
  indent-reads h =
      by_cases (dec_lt n 10)
      (λ l. rw (one_digit l, low_digit n l, lt-leb 10 n l) (ap some (omega arith)))
      (λ l.
      let q : n / 10 < 10 = omega arith in
      let r : n % 10 < 10 = omega arith in
      rw (two_digits (omega arith) h, low_digit (n / 10) q, lt-leb 10 (n / 10) q, low_digit (n % 10) r, lt-leb 10 (n % 10) r) (ap some (omega arith)))

  pub indent-above : n < 100 → Above (decimal n)
  indent-above h =
      by_cases (dec_lt n 10) (λ l. rw (one_digit l) (omega arith, tt)) (λ l. rw (two_digits (omega arith) h) (omega arith, (omega arith, tt)))
