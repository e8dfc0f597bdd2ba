-- Rows of digits with quotes, and constants: each way that a reading function of the 2024 edition returns. Assumes nothing.
use Rattle.std.proofs.Common.{◌≡◌, ℕ, suc, ◌+◌, ◌-◌, ◌*◌, ◌^◌, ◌<◌, ◌≤◌, Bool, true, false, eqb, [], ◌∷◌, length, get_or, take, drop, ℤ, neg_ℤ, sym, refl, ap, ◌∙◌, arith}
use Rattle.std.proofs.Common.{le-ltb, eq-eqb, ne_eqb, eqb-true}
use mathlib.Core.Option.{Option, none, some}
use Rattle.reference.specs.Control.{◌and◌, ◌or◌, when◌then◌else◌, let_some◌else◌then◌}
use Rattle.reference.specs.Text.{Text, bytes, starts_with}
use Rattle.reference.specs.Numbers.{to_digit, digits_value, as_i64, wrap, parse_c_number, base_of, prefix_size, unquoted, constant_digits, constant_value, value_limit, read_constant, parse_2024}
use Rattle.reference.specs.Numbers.{read_number}
use Rattle.reference.proofs.Cases.{either}
use Rattle.reference.proofs.Shapes.{starts_with_length}
use Rattle.laws.proofs.Scans.{if-true, if-false}
use Rattle.laws.proofs.Parts.{to_end}
use Rattle.numbers.specs.Reading.{at_most, with_digit}
use Rattle.numbers.specs.Constants.{row_after, PastQuote, row, sized}
use Rattle.numbers.proofs.Reading.{most_none, most_in, byte_read, byte_unread, too_large}
use Rattle.numbers.proofs.Parsing.{stripped, unstripped, below, then_some, then_none}

-- ---- a row, byte by byte

quote_is_none : (radix : ℕ) → radix ≤ 36 → to_digit radix 39 ≡ none
unfolding to_digit when◌then◌else◌ ◌and◌
quote_is_none radix h = rw (le-ltb 99 radix (omega arith)) refl

module _ (radix v : ℕ) where
  row_end : row_after radix true v [] ≡ some v
  unfolding row_after unquoted when◌then◌else◌ let_some◌else◌then◌ digits_value
  row_end = refl

  row_cut : row_after radix false v [] ≡ none
  unfolding row_after unquoted when◌then◌else◌ let_some◌else◌then◌
  row_cut = refl

  row-quote : (c : ℕ) (s : Text) → c ≡ 39 → row_after radix true v (c ∷ s) ≡ row_after radix false v s
  unfolding row_after unquoted when◌then◌else◌
  row-quote c s e = rw e refl

  row_same : (c : ℕ) (s : Text) → (c ≡ 39 → ⊥) → row_after radix true v (c ∷ s) ≡ row_after radix false v (c ∷ s)
  unfolding row_after unquoted when◌then◌else◌
  row_same c s e = rw (ne_eqb c 39 e) refl

  row-digit : radix ≤ 36 → (c : ℕ) (s : Text)
      → row_after radix false v (c ∷ s) ≡ (let_some (to_digit radix c) else none then λ d. row_after radix true (v * radix + d) s)
  unfolding row_after unquoted when◌then◌else◌ let_some◌else◌then◌ digits_value
  row-digit h c s = first (eqb c 39) refl
    where
      both_ways : (o : Option Text) (d : Option ℕ)
          → (let_some (let_some o else none then λ ds. some (c ∷ ds)) else none then λ ds. (let_some d else none then λ d. digits_value radix (v * radix + d) (drop 1 ds)))
          ≡ (let_some d else none then λ d. let_some o else none then λ ds. digits_value radix (v * radix + d) ds)
      both_ways none none = refl
      both_ways none (some d) = refl
      both_ways (some ds) none = refl
      both_ways (some ds) (some d) = refl

      same : (o : Option Text)
          → (let_some (let_some o else none then λ ds. some (c ∷ ds)) else none then λ ds. digits_value radix v ds)
          ≡ (let_some (let_some o else none then λ ds. some (c ∷ ds)) else none then λ ds. (let_some (to_digit radix c) else none then λ d. digits_value radix (v * radix + d) (drop 1 ds)))
      same none = refl
      same (some ds) = refl

      first : (q : Bool) → eqb c 39 ≡ q
          → (let_some (when q then none else let_some (unquoted true s) else none then λ ds. some (c ∷ ds)) else none then λ ds. digits_value radix v ds)
          ≡ (let_some (to_digit radix c) else none then λ d. let_some (unquoted true s) else none then λ ds. digits_value radix (v * radix + d) ds)
      first true q = let z : to_digit radix c ≡ none = rw (eqb-true c 39 q) (quote_is_none radix h) in rw z refl
      first false q = same (unquoted true s) ∙ both_ways (unquoted true s) (to_digit radix c)

row-large : (most radix : ℕ) → 0 < radix → (digit : Bool) (v : ℕ) (s : Text) → most < v → at_most most (row_after radix digit v s) ≡ none
unfolding row_after let_some◌else◌then◌
row-large most radix p digit v s h = by (unquoted digit s)
  where
    by : (o : Option Text) → at_most most (let_some o else none then λ ds. digits_value radix v ds) ≡ none
    by none = most_none most
    by (some ds) = too_large most radix p v ds h

-- ---- the quote

pub past_one : (s : Text) → 1 ≤ length s → get_or s 0 0 ≡ 39 → PastQuote s (drop 1 s)
past_one [] h e = absurd (omega arith)
past_one (c ∷ s) h e = record { no_longer = omega arith; means = λ radix v l. row-quote radix v c s e }

pub past_none : (s : Text) → (1 ≤ length s → get_or s 0 0 ≡ 39 → ⊥) → PastQuote s s
past_none [] n = record { no_longer = omega arith; means = λ radix v l. absurd (omega arith) }
past_none (c ∷ s) n = record { no_longer = omega arith; means = λ radix v l. row_same radix v c s (n (omega arith)) }

-- ---- the row, where `row radix s` is what comes of a digit in front of s, after the number v

module _ (most radix v : ℕ) (s : Text) (b : radix ≤ 36) (h : 1 ≤ length s) where
  next : row_after radix false v s ≡ (let_some (to_digit radix (get_or s 0 0)) else none then λ d. row_after radix true (v * radix + d) (drop 1 s))
  next = by s h
    where
      by : (s : Text) → 1 ≤ length s → row_after radix false v s ≡ (let_some (to_digit radix (get_or s 0 0)) else none then λ d. row_after radix true (v * radix + d) (drop 1 s))
      by [] h = absurd (omega arith)
      by (c ∷ s) h = row-digit radix v b c s

  pub digit-read : {n : ℕ} → some n ≡ at_most most (with_digit radix v (get_or s 0 0))
      → (n ≤ most) × (at_most most (row_after radix false v s) ≡ at_most most (row_after radix true n (drop 1 s)))
  digit-read e = byte_read most radix v (get_or s 0 0) (λ n. row_after radix true n (drop 1 s)) next e

  pub digit-unread : none ≡ at_most most (with_digit radix v (get_or s 0 0)) → at_most most (row_after radix false v s) ≡ none
  digit-unread e =
      byte_unread most radix v (get_or s 0 0) (λ n. row_after radix true n (drop 1 s)) next (λ p n h. row-large most radix p true n _ h) e

-- at the end, and past it
module _ (most radix v : ℕ) where
  pub ends_read : (s : Text) → length s ≡ 0 → v ≤ most → at_most most (row_after radix true v s) ≡ some v
  ends_read [] h m = rw (row_end radix v) (most_in most v m)
  ends_read (c ∷ s) h m = absurd (omega arith)

  pub ends-cut : (s : Text) → length s < 1 → at_most most (row_after radix false v s) ≡ none
  ends-cut [] h = rw (row_cut radix v) (most_none most)
  ends-cut (c ∷ s) h = absurd (omega arith)

-- ---- a row within a bound, as an i64

module _ (s : Text) (radix most : ℕ) where
  pub sized-read : {n : ℕ} → some n ≡ at_most most (row radix s) → some (as_i64 n) ≡ sized radix most s
  unfolding sized
  sized-read e = then_some as_i64 e

  pub sized-unread : none ≡ at_most most (row radix s) → none ≡ sized radix most s
  unfolding sized
  sized-unread e = then_none as_i64 e

-- ---- a constant

constant_by : (s : Text) (base most : ℕ) → base_of s ≡ base → value_limit base ≡ suc most → sized base most (drop (prefix_size base) s) ≡ read_constant s
unfolding sized read_constant constant_value constant_digits row_after
constant_by s base most e l = rw (e, l) (sym (below as_i64 most (row base (drop (prefix_size base) s))))

-- where calls answered of the prefixes
module _ (s : Text) {x : Bool} (e : x ≡ (starts_with s (bytes "0x") or starts_with s (bytes "0X"))) where
  pub fits_16 : x ≡ true → 2 ≤ length s
  fits_16 t = either (2 ≤ length s) (sym e ∙ t) (starts_with_length s (bytes "0x")) (starts_with_length s (bytes "0X"))

  pub read_16 : x ≡ true → sized 16 (2 ^ 64 - 1) (take (length s - 2) (drop 2 s)) ≡ read_constant s
  unfolding base_of value_limit prefix_size when◌then◌else◌ ◌or◌
  read_16 t = rw to_end (constant_by s 16 (2 ^ 64 - 1) (if-true _ _ (sym e ∙ t)) refl)

  module _ (n : x ≡ false) {y : Bool} (f : y ≡ (starts_with s (bytes "0b") or starts_with s (bytes "0B"))) where
    pub fits_2 : y ≡ true → 2 ≤ length s
    fits_2 t = either (2 ≤ length s) (sym f ∙ t) (starts_with_length s (bytes "0b")) (starts_with_length s (bytes "0B"))

    pub read_2 : y ≡ true → sized 2 (2 ^ 64 - 1) (take (length s - 2) (drop 2 s)) ≡ read_constant s
    unfolding base_of value_limit prefix_size when◌then◌else◌ ◌or◌
    read_2 t = rw to_end (constant_by s 2 (2 ^ 64 - 1) (if-false _ _ (sym e ∙ n) ∙ if-true _ _ (sym f ∙ t)) refl)

    module _ (m : y ≡ false) {z : Bool} (g : z ≡ starts_with s (bytes "0")) where
      pub read_8 : z ≡ true → sized 8 (2 ^ 64 - 1) s ≡ read_constant s
      unfolding base_of value_limit prefix_size when◌then◌else◌ ◌or◌
      read_8 t = constant_by s 8 (2 ^ 64 - 1) (if-false _ _ (sym e ∙ n) ∙ if-false _ _ (sym f ∙ m) ∙ if-true _ _ (sym g ∙ t)) refl

      pub read_10 : z ≡ false → sized 10 (2 ^ 63 - 1) s ≡ read_constant s
      unfolding base_of value_limit prefix_size when◌then◌else◌ ◌or◌
      read_10 t = constant_by s 10 (2 ^ 63 - 1) (if-false _ _ (sym e ∙ n) ∙ if-false _ _ (sym f ∙ m) ∙ if-false _ _ (sym g ∙ t)) refl

-- ---- with a sign, where r is what a call answered of the minus

module _ (s : Text) {r : Bool} (e : r ≡ starts_with s (bytes "-")) where
  pub parse_plain : r ≡ false → read_constant s ≡ parse_2024 s
  unfolding parse_2024
  parse_plain t = sym (unstripped (bytes "-") s e (read_constant s) _ t)

  minus_is : r ≡ true → (let_some (read_constant (drop 1 s)) else none then λ n. some (wrap (neg_ℤ n))) ≡ parse_2024 s
  unfolding parse_2024
  minus_is t = sym (stripped (bytes "-") s e (read_constant s) _ t)

  module _ {d : Text} (t : r ≡ true) (u : d ≡ drop 1 s) where
    pub parse_read : {v : ℤ} → some v ≡ read_constant d → some (wrap (neg_ℤ v)) ≡ parse_2024 s
    parse_read h = then_some (λ n. wrap (neg_ℤ n)) (h ∙ ap read_constant u) ∙ minus_is t

    pub parse_unread : none ≡ read_constant d → none ≡ parse_2024 s
    parse_unread h = then_none (λ n. wrap (neg_ℤ n)) (h ∙ ap read_constant u) ∙ minus_is t

-- ---- by an edition

module _ (edition : ℕ) (s : Text) where
  pub edition_0 : edition ≡ 0 → parse_c_number s ≡ read_number edition s
  unfolding read_number
  edition_0 e = sym (if-true _ _ (eq-eqb edition 0 e))

  pub edition_1 : (edition ≡ 0 → ⊥) → parse_2024 s ≡ read_number edition s
  unfolding read_number
  edition_1 e = sym (if-false _ _ (ne_eqb edition 0 e))
