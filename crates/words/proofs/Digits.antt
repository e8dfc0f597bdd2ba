-- Digits, and a number read digit by digit: each turn of the loop. Assumes nothing.
use Rattle.std.proofs.Common.{◌≡◌, ℕ, suc, ◌+◌, ◌-◌, ◌*◌, ◌%◌, ◌^◌, ◌≤◌, ◌<◌, Bool, true, false, eqb, leb, List, [], ◌∷◌, length, drop, get_or, refl, sym, ap, ◌∙◌, arith, add-one, pow-suc}
use native.Mathlib.Nat.{pow-le-pow_right, mul-le-mul_left}
use native.Mathlib.Decide.{dec_le, dec_lt, ℕ_discrete}
use mathlib.Core.Option.{Option, none, some}
use mathlib.Core.Logic.{by_cases, ◌⊎◌, inl, inr}
use lib.ListN.{drop_of_length-le}
use lib.Seq.{drop-cons}
use borrow.Author.Tests.{le-leb, lt-leb, lt-ltb, le-ltb, eq-eqb, ne_eqb}
use Rattle.std.specs.Char.{digit_value}
use Rattle.reference.specs.Control.{when◌then◌else◌, let_some◌else◌then◌}
use Rattle.reference.specs.Text.{Text}
use Rattle.reference.proofs.Cases.{by-if, some_inj, none-some}
use Rattle.laws.proofs.Scans.{if-true, if-false}
use Rattle.words.specs.Numerals.{digit, digit_in, digits_from, within_64, number_in, unsigned_in, magnitude_in, negated, negative_in}

pub grown : (base v d i : ℕ) → v < 16 ^ i → base ≤ 16 → d < base → v * base + d < 16 ^ (i + 1)
grown base v d i h b l =
    let e : 16 ^ (i + 1) ≡ 16 ^ i * 16 = ap (λ (n : ℕ). 16 ^ n) (add-one i) ∙ pow-suc 16 i in
    omega (arith, e, mul-le-mul_left v b)

-- where std gives a digit, and where it gives none
abbrev Agrees : ℕ → Type 0
Agrees c = ((digit_value c < 16) × (digit c ≡ digit_value c)) ⊎ ((16 ≤ digit_value c) × (digit c ≡ 16))

agrees-large : (c : ℕ) → 71 ≤ c → Agrees c
unfolding digit when◌then◌else◌
agrees-large c h =
    by_cases (dec_lt c 91)
    (λ a.
    simp (
      le-ltb c 48 (omega arith),
      le-ltb c 58 (omega arith),
      le-ltb c 65 (omega arith),
      le-ltb c 71 (omega arith),
      lt-ltb c 91 (omega arith),
      lt-ltb c 97 (omega arith),
    ) (inr (omega arith, refl)))
    (λ a. by_cases (dec_lt c 97)
    (λ b.
    simp (
      le-ltb c 48 (omega arith),
      le-ltb c 58 (omega arith),
      le-ltb c 65 (omega arith),
      le-ltb c 71 (omega arith),
      le-ltb c 91 (omega arith),
      lt-ltb c 97 (omega arith),
    ) (inr (omega arith, refl)))
    (λ b. by_cases (dec_lt c 103)
    (λ d.
    simp (
      le-ltb c 48 (omega arith),
      le-ltb c 58 (omega arith),
      le-ltb c 65 (omega arith),
      le-ltb c 71 (omega arith),
      le-ltb c 91 (omega arith),
      le-ltb c 97 (omega arith),
      lt-ltb c 103 (omega arith),
      lt-ltb c 123 (omega arith),
    ) (inl (omega arith, refl)))
    (λ d. by_cases (dec_lt c 123)
    (λ e.
    simp (
      le-ltb c 48 (omega arith),
      le-ltb c 58 (omega arith),
      le-ltb c 65 (omega arith),
      le-ltb c 71 (omega arith),
      le-ltb c 91 (omega arith),
      le-ltb c 97 (omega arith),
      le-ltb c 103 (omega arith),
      lt-ltb c 123 (omega arith),
    ) (inr (omega arith, refl)))
    (λ e.
    simp (
      le-ltb c 48 (omega arith),
      le-ltb c 58 (omega arith),
      le-ltb c 65 (omega arith),
      le-ltb c 71 (omega arith),
      le-ltb c 91 (omega arith),
      le-ltb c 97 (omega arith),
      le-ltb c 103 (omega arith),
      le-ltb c 123 (omega arith),
    ) (inr (omega arith, refl))))))

agrees : (c : ℕ) → Agrees c
unfolding digit when◌then◌else◌
agrees c =
    by_cases (dec_lt c 48) (λ a. simp (lt-ltb c 48 a) (inr (omega arith, refl)))
    (λ a. by_cases (dec_lt c 58) (λ b. simp (le-ltb c 48 (omega arith), lt-ltb c 58 b) (inl (omega arith, refl)))
    (λ b. by_cases (dec_lt c 65) (λ d. simp (le-ltb c 48 (omega arith), le-ltb c 58 (omega arith), lt-ltb c 65 d) (inr (omega arith, refl)))
    (λ d. by_cases (dec_lt c 71)
    (λ e.
    simp (
      le-ltb c 48 (omega arith),
      le-ltb c 58 (omega arith),
      le-ltb c 65 (omega arith),
      lt-ltb c 71 e,
      lt-ltb c 91 (omega arith),
    ) (inl (omega arith, refl)))
    (λ e. agrees-large c (omega arith)))))

module _ (base c : ℕ) (b : base ≤ 16) where
  pub no_digit : base ≤ digit_value c → none ≡ digit_in base c
  unfolding digit_in
  no_digit h = let a = agrees c in sym (if-true _ _ (le-leb base (digit c) (omega arith)))

  pub a_digit : digit_value c < base → some (digit_value c) ≡ digit_in base c
  unfolding digit_in
  a_digit h =
      let a = agrees c in
      let e : digit c ≡ digit_value c = omega arith in
      ap some (sym e) ∙ sym (if-false _ _ (lt-leb base (digit c) (omega arith)))

-- a byte that is a digit is one, and below the base
module _ (base c : ℕ) where
  digit_is : {d : ℕ} → some d ≡ digit_in base c → (d ≡ digit c) × (d < base)
  unfolding digit_in
  digit_is {d} e =
      by_cases (dec_le base (digit c))
      (λ h. absurd (none-some (sym (e ∙ if-true _ _ (le-leb base (digit c) h)))))
      (λ h.
      let m : d ≡ digit c = some_inj (e ∙ if-false _ _ (lt-leb base (digit c) (omega arith))) in
      (m, omega arith))

  digit_not : none ≡ digit_in base c → base ≤ digit c
  unfolding digit_in
  digit_not e =
      by_cases (dec_le base (digit c)) (λ h. h)
      (λ h. absurd (none-some (e ∙ if-false _ _ (lt-leb base (digit c) (omega arith)))))

module _ (base v : ℕ) (w : List ℕ) (i : ℕ) (h : i < length w) where
  digit-stop : base ≤ digit (get_or w i 0) → digits_from base v (drop i w) ≡ none
  unfolding digits_from
  digit-stop l = ap (digits_from base v) (drop-cons w i 0 h) ∙ if-true _ _ (le-leb base _ l)

  digit_more : {d : ℕ} → d ≡ digit (get_or w i 0) → d < base → digits_from base v (drop i w) ≡ digits_from base (v * base + d) (drop (i + 1) w)
  unfolding digits_from
  digit_more {d} e l =
      ap (digits_from base v) (drop-cons w i 0 h) ∙ if-false _ _ (lt-leb base _ (rw e at l))
      ∙ ap (λ (n : ℕ). digits_from base (v * base + n) (drop (suc i) w)) (sym e)
      ∙ ap (λ (n : ℕ). digits_from base (v * base + d) (drop n w)) (sym (add-one i))

pub digit_end : (base v : ℕ) (w : List ℕ) (i : ℕ) → length w ≤ i → digits_from base v (drop i w) ≡ some v
unfolding digits_from
digit_end base v w i h = rw (drop_of_length-le w h)

-- ---- numbers below 2^64

too_large : (base v : ℕ) (w : List ℕ) → 1 ≤ base → 2 ^ 64 ≤ v → within_64 (digits_from base v w) ≡ none
unfolding within_64 let_some◌else◌then◌ digits_from
too_large base v [] p l = if-false _ _ (le-ltb v (2 ^ 64) l)
too_large base v (b ∷ bs) p l =
    by-if (λ (o : Option ℕ). within_64 o ≡ none) (λ e. refl)
    (λ e. too_large base (v * base + digit b) bs p (omega (arith, mul-le-mul_left v p)))

module _ (base v : ℕ) (w : List ℕ) (i : ℕ) (h : i < length w) where
  pub stop_64 : none ≡ digit_in base (get_or w i 0) → none ≡ within_64 (digits_from base v (drop i w))
  unfolding within_64 let_some◌else◌then◌
  stop_64 e = rw (digit-stop base v w i h (digit_not base _ e))

  module _ {d : ℕ} (e : some d ≡ digit_in base (get_or w i 0)) where
    pub more_64 : within_64 (digits_from base v (drop i w)) ≡ within_64 (digits_from base (v * base + d) (drop (i + 1) w))
    more_64 = let q = digit_is base _ e in ap within_64 (digit_more base v w i h q.0 q.1)

    pub over_64 : 2 ^ 64 ≤ v * base + d → none ≡ within_64 (digits_from base v (drop i w))
    over_64 g = let q = digit_is base _ e in sym (more_64 ∙ too_large base (v * base + d) (drop (i + 1) w) (omega arith) g)

pub end_64 : (base v : ℕ) (w : List ℕ) (i : ℕ) → length w ≤ i → v < 2 ^ 64 → within_64 (digits_from base v (drop i w)) ≡ some v
unfolding within_64 let_some◌else◌then◌
end_64 base v w i h l = ap within_64 (digit_end base v w i h) ∙ if-true _ _ (lt-ltb v (2 ^ 64) l)

-- a word of up to 16 digits is a number below 2^64
short : (base : ℕ) → base ≤ 16 → (w : List ℕ) (i v : ℕ) → v < 16 ^ i → i + length w ≤ 16 → within_64 (digits_from base v w) ≡ digits_from base v w
unfolding digits_from within_64 let_some◌else◌then◌
short base b [] i v l h = if-true _ _ (lt-ltb v (2 ^ 64) (omega (arith, pow-le-pow_right {n = 16} (omega arith) {i = i} {j = 16} (omega arith))))
short base b (c ∷ cs) i v l h =
    by_cases (dec_le base (digit c))
    (λ k. let e : leb base (digit c) ≡ true = le-leb base _ k in rw (if-true _ _ e) refl)
    (λ k.
    let e : leb base (digit c) ≡ false = lt-leb base _ (omega arith) in
    rw (if-false _ _ e) (short base b cs (i + 1) (v * base + digit c) (grown base v (digit c) i l b (omega arith)) (omega arith)))

module _ (base : ℕ) (w : Text) where
  pub number_long : 16 < length w → none ≡ number_in base w
  unfolding number_in
  number_long h = sym (if-false _ _ (ne_eqb (length w) 0 (λ e. omega arith)) ∙ if-true _ _ (lt-ltb 16 (length w) h))

  pub number-short : base ≤ 16 → length w ≤ 16 → unsigned_in base w ≡ number_in base w
  unfolding number_in unsigned_in
  number-short b h =
      rw (short base b w 0 0 (omega arith) (omega arith), le-ltb 16 (length w) h) (ap (λ (o : Option ℕ). when eqb (length w) 0 then none else o) (sym (if-false _ _ refl)))

  pub unsigned-empty : {b : Bool} → b ≡ eqb (length w) 0 → b ≡ true → none ≡ unsigned_in base w
  unfolding unsigned_in
  unsigned-empty e t = sym (if-true _ _ (sym e ∙ t))

  pub unsigned_from : {b : Bool} → b ≡ eqb (length w) 0 → b ≡ false → unsigned_in base w ≡ within_64 (digits_from base 0 w)
  unfolding unsigned_in
  unsigned_from e t = if-false _ _ (sym e ∙ t)

-- a word that begins with a minus has a byte
-- ---- a number behind a minus

pub negated_over : (v : ℕ) → 2 ^ 63 < v → none ≡ negated v
unfolding negated
negated_over v h = sym (if-false _ _ (ne_eqb v 0 (λ e. omega arith)) ∙ if-true _ _ (lt-ltb (2 ^ 63) v h))

pub negated_is : (v : ℕ) → v ≤ 2 ^ 63 → {r : ℕ} → r < 2 ^ 64 → (r + v) % 2 ^ 64 ≡ 0 → some r ≡ negated v
unfolding negated
negated_is v h {r} l e =
    by_cases (ℕ_discrete v 0)
    (λ z. let s : r ≡ 0 = omega arith in ap some s ∙ sym (if-true _ _ (eq-eqb v 0 z)))
    (λ n.
    let s : r ≡ 2 ^ 64 - v = omega arith in
    ap some s ∙ sym (if-false _ _ (ne_eqb v 0 n) ∙ if-false _ _ (le-ltb (2 ^ 63) v h)))

pub negative_some : (w : Text) {v : ℕ} {r : Option ℕ} → some v ≡ magnitude_in w → r ≡ negated v → r ≡ negative_in w
unfolding negative_in let_some◌else◌then◌
negative_some w e f = rw (← e) f

pub negative_none : (w : Text) → none ≡ magnitude_in w → none ≡ negative_in w
unfolding negative_in let_some◌else◌then◌
negative_none w e = rw (← e)
