-- Reading: each way that a reading function returns, from the facts of that place. Assumes nothing.
use Rattle.std.proofs.Common.{◌≡◌, ℕ, zero, suc, ◌+◌, ◌-◌, ◌*◌, ◌<◌, ◌≤◌, Bool, true, false, eqb, leb, eqb-true, [], ◌∷◌, length, get_or, drop, sym, refl, ap, ◌∙◌}
use Rattle.std.proofs.Common.{le-mul_of_pos_right, add-one, arith, drop_of_length-le, drop-cons, le-ltb, lt-ltb, le-leb}
use mathlib.Core.Logic.{by_cases, ◌⊎◌, inl, inr}
use native.Mathlib.Decide.{dec_le, dec_lt}
use mathlib.Core.Option.{Option, none, some}
use borrow.Author.Tests.{lt-leb}
use Rattle.reference.specs.Control.{◌and◌, when◌then◌else◌, let_some◌else◌then◌}
use Rattle.reference.specs.Text.{Text}
use Rattle.reference.specs.Numbers.{to_digit, digits_value}
use Rattle.laws.proofs.Scans.{if-true, if-false}
use Rattle.numbers.specs.Reading.{at_most, with_digit}
use Rattle.std.proofs.lemmas.Bool.{eqb-false}
use Rattle.std.specs.Char.{digit_value}
use Rattle.std.specs.Option.{SomeIff, unwrap_or}
use Rattle.std.proofs.Common as std
use Rattle.reference.proofs.Cases.{some_inj, none-some}

-- ---- one digit

-- the value that `to_digit` compares with the base
unfoldable pub value : ℕ → ℕ
value c =
    when leb 48 c and leb c 57 then c - 48
    else when leb 97 c and leb c 122 then c - 87
    else when leb 65 c and leb c 90 then c - 55
    else 99

-- where std gives a digit of base 36, and where it gives none
abbrev pub Agrees : ℕ → Type 0
Agrees c = ((digit_value c < 36) × (value c ≡ digit_value c)) ⊎ ((digit_value c ≡ 36) × (value c ≡ 99))

agrees-large : (c : ℕ) → 91 ≤ c → Agrees c
unfolding value when◌then◌else◌ ◌and◌
agrees-large c h =
    by_cases (dec_lt c 97)
    (λ f.
    simp (
      le-ltb c 48 (omega arith),
      le-ltb c 58 (omega arith),
      le-ltb c 65 (omega arith),
      le-ltb c 91 (omega arith),
      lt-ltb c 97 (omega arith),
      le-leb 48 c (omega arith),
      lt-leb c 57 (omega arith),
      lt-leb 97 c (omega arith),
      le-leb 65 c (omega arith),
      lt-leb c 90 (omega arith),
    ) (inr (refl, refl)))
    (λ f. by_cases (dec_lt c 123)
    (λ g.
    simp (
      le-ltb c 48 (omega arith),
      le-ltb c 58 (omega arith),
      le-ltb c 65 (omega arith),
      le-ltb c 91 (omega arith),
      le-ltb c 97 (omega arith),
      lt-ltb c 123 (omega arith),
      le-leb 48 c (omega arith),
      lt-leb c 57 (omega arith),
      le-leb 97 c (omega arith),
      le-leb c 122 (omega arith),
    ) (inl (omega arith, refl)))
    (λ g.
    simp (
      le-ltb c 48 (omega arith),
      le-ltb c 58 (omega arith),
      le-ltb c 65 (omega arith),
      le-ltb c 91 (omega arith),
      le-ltb c 97 (omega arith),
      le-ltb c 123 (omega arith),
      le-leb 48 c (omega arith),
      lt-leb c 57 (omega arith),
      le-leb 97 c (omega arith),
      lt-leb c 122 (omega arith),
      le-leb 65 c (omega arith),
      lt-leb c 90 (omega arith),
    ) (inr (refl, refl))))

pub agrees : (c : ℕ) → Agrees c
unfolding value when◌then◌else◌ ◌and◌
agrees c =
    by_cases (dec_lt c 48)
    (λ a. simp (lt-ltb c 48 (omega arith), lt-leb 48 c (omega arith), lt-leb 97 c (omega arith), lt-leb 65 c (omega arith)) (inr (refl, refl)))
    (λ a. by_cases (dec_lt c 58)
    (λ b. simp (le-ltb c 48 (omega arith), lt-ltb c 58 (omega arith), le-leb 48 c (omega arith), le-leb c 57 (omega arith)) (inl (omega arith, refl)))
    (λ b. by_cases (dec_lt c 65)
    (λ d.
    simp (
      le-ltb c 48 (omega arith),
      le-ltb c 58 (omega arith),
      lt-ltb c 65 (omega arith),
      le-leb 48 c (omega arith),
      lt-leb c 57 (omega arith),
      lt-leb 97 c (omega arith),
      lt-leb 65 c (omega arith),
    ) (inr (refl, refl)))
    (λ d. by_cases (dec_lt c 91)
    (λ e.
    simp (
      le-ltb c 48 (omega arith),
      le-ltb c 58 (omega arith),
      le-ltb c 65 (omega arith),
      lt-ltb c 91 (omega arith),
      le-leb 48 c (omega arith),
      lt-leb c 57 (omega arith),
      lt-leb 97 c (omega arith),
      le-leb 65 c (omega arith),
      le-leb c 90 (omega arith),
    ) (inl (omega arith, refl)))
    (λ e. agrees-large c (omega arith)))))

-- what std answers of the byte, with 99 where it gives none
pub worth : (c : ℕ) (r : std.Option ℕ) → SomeIff r (digit_value c < 36) (digit_value c) → unwrap_or r 99 ≡ value c
worth c std.None n = let a = agrees c in omega arith
worth c (std.Some d) s = let a = agrees c in omega (arith, s.1)

module _ (radix c : ℕ) {d : ℕ} (e : d ≡ value c) where
  pub no_digit : radix ≤ d → none ≡ to_digit radix c
  unfolding to_digit value
  no_digit h = sym (if-false _ _ (le-ltb (value c) radix (omega arith)))

  pub a_digit : d < radix → some d ≡ to_digit radix c
  unfolding to_digit value
  a_digit h = ap some e ∙ sym (if-true _ _ (lt-ltb (value c) radix (omega arith)))

-- a base with a digit is no 0
a_base : (radix c : ℕ) {d : ℕ} → some d ≡ to_digit radix c → 0 < radix
unfolding to_digit value
a_base zero c e = absurd (none-some (sym (if-false _ _ (le-ltb (value c) 0 (omega arith))) ∙ sym e))
a_base (suc n) c e = omega arith

-- ---- a number that is at most `most`

module _ (most : ℕ) where
  pub most_none : at_most most none ≡ none
  unfolding at_most let_some◌else◌then◌
  most_none = refl

  pub most_in : (n : ℕ) → n ≤ most → at_most most (some n) ≡ some n
  unfolding at_most let_some◌else◌then◌
  most_in n h = if-true _ _ (le-leb n most h)

  most-over : (n : ℕ) → most < n → at_most most (some n) ≡ none
  unfolding at_most let_some◌else◌then◌
  most-over n h = if-false _ _ (lt-leb n most h)

-- ---- a number with one digit more

-- what follows a byte that is no digit, and one that is
module _ (most radix c : ℕ) (k : ℕ → Option ℕ) where
  digit_none : none ≡ to_digit radix c → at_most most (let_some (to_digit radix c) else none then k) ≡ none
  unfolding let_some◌else◌then◌
  digit_none h = rw (← h) (most_none most)

  digit_some : {d : ℕ} → some d ≡ to_digit radix c → at_most most (let_some (to_digit radix c) else none then k) ≡ at_most most (k d)
  unfolding let_some◌else◌then◌
  digit_some h = rw (← h)

module _ (most radix v c : ℕ) where
  pub with_none : none ≡ to_digit radix c → none ≡ at_most most (with_digit radix v c)
  unfolding with_digit
  with_none h = sym (digit_none most radix c _ h)

  module _ {d : ℕ} (e : some d ≡ to_digit radix c) where
    pub with_over : most < v * radix + d → none ≡ at_most most (with_digit radix v c)
    unfolding with_digit
    with_over o = sym (digit_some most radix c _ e ∙ most-over most _ o)

    pub with_in : v * radix + d ≤ most → some (v * radix + d) ≡ at_most most (with_digit radix v c)
    unfolding with_digit
    with_in o = sym (digit_some most radix c _ e ∙ most_in most (v * radix + d) o)

-- the byte c after the number v, where `k` is what follows a number; o is what comes of it
module _ (most radix v c : ℕ) (k : ℕ → Option ℕ) {o : Option ℕ} (next : o ≡ (let_some (to_digit radix c) else none then λ d. k (v * radix + d))) where
  pub byte_read : {n : ℕ} → some n ≡ at_most most (with_digit radix v c) → (n ≤ most) × (at_most most o ≡ at_most most (k n))
  byte_read {n} e = step (to_digit radix c) refl
    where
      step : (t : Option ℕ) → t ≡ to_digit radix c → (n ≤ most) × (at_most most o ≡ at_most most (k n))
      step none t = absurd (none-some (with_none most radix v c t ∙ sym e))
      step (some d) t =
          by_cases (dec_le (v * radix + d) most)
          (λ h.
          let m : n ≡ v * radix + d = some_inj (e ∙ sym (with_in most radix v c t h)) in
          (omega arith, ap (at_most most) next ∙ digit_some most radix c _ t ∙ rw m refl))
          (λ h. absurd (none-some (with_over most radix v c t (omega arith) ∙ sym e)))

  pub byte_unread : (0 < radix → (n : ℕ) → most < n → at_most most (k n) ≡ none) → none ≡ at_most most (with_digit radix v c) → at_most most o ≡ none
  byte_unread large e = step (to_digit radix c) refl
    where
      step : (t : Option ℕ) → t ≡ to_digit radix c → at_most most o ≡ none
      step none t = ap (at_most most) next ∙ digit_none most radix c _ t
      step (some d) t =
          by_cases (dec_le (v * radix + d) most)
          (λ h. absurd (none-some (e ∙ sym (with_in most radix v c t h))))
          (λ h. ap (at_most most) next ∙ digit_some most radix c _ t ∙ large (a_base radix c t) _ (omega arith))

-- ---- a row of digits

-- past `most` no digit helps
pub too_large : (most radix : ℕ) → 0 < radix → (v : ℕ) (s : Text) → most < v → at_most most (digits_value radix v s) ≡ none
unfolding digits_value
too_large most radix p v [] h = most-over most v h
too_large most radix p v (c ∷ s) h = step (to_digit radix c) refl (λ d. too_large most radix p (v * radix + d) s (omega (arith, le-mul_of_pos_right v p)))
  where
    step : (t : Option ℕ) → t ≡ to_digit radix c → ((d : ℕ) → at_most most (digits_value radix (v * radix + d) s) ≡ none)
        → at_most most (let_some (to_digit radix c) else none then λ d. digits_value radix (v * radix + d) s) ≡ none
    step none t more = digit_none most radix c _ t
    step (some d) t more = digit_some most radix c _ t ∙ more d

pub none_empty : (s : Text) {b : Bool} → b ≡ eqb (length s) 0 → b ≡ true → length s ≡ 0
none_empty s e t = eqb-true (length s) 0 (sym e ∙ t)

pub not_empty : (s : Text) {b : Bool} → b ≡ eqb (length s) 0 → b ≡ false → length s ≡ 0 → ⊥
not_empty s e t = eqb-false (length s) 0 (sym e ∙ t)
