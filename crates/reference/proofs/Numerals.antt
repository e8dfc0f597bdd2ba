-- How numbers are read, on any text: digits one by one, what the Rust reads of digits alone and of digits behind `0x`, and what the 2024 edition
-- reads of a base and a row of digits; a minus in front. Assumes nothing.
use Prim.Native.Nat.{ℕ, ◌+◌, ◌*◌, ◌^◌}
use mathlib.Core.Path.{◌≡◌, refl, sym, ap, ◌∙◌}
use mathlib.Core.Bool.{Bool, true, false, true≢false}
use mathlib.Core.List.{[], ◌∷◌, ◌++◌}
use mathlib.Core.Option.{Option, none, some}
use lib.Dec.{eqb, ltb}
use lib.IntN.{ℤ, pos, neg_ℤ}
use borrow.Author.Tests.{eqb-true, eqb-false, ne_eqb}
use Rattle.reference.specs.Control.{◌and◌, ◌or◌, when◌then◌else◌, let_some◌else◌then◌}
use Rattle.reference.specs.Lists.{is_empty}
use Rattle.reference.specs.Text.{Text, bytes, starts_with, contains, strip_prefix}
use Rattle.reference.specs.Numbers.{to_digit, digits_value, unsigned, read_u64, read_i64, as_i64, wrap, parse_c_number, base_of, unquoted, constant_digits, constant_value, value_limit, read_constant}
use Rattle.reference.specs.Numbers.{parse_2024}
use Rattle.reference.proofs.Opened.{opened}
use Rattle.reference.proofs.Cases.{neither, none-some}

-- ---- digits

-- one digit more
module _ (radix c : ℕ) {d : ℕ} (h : to_digit radix c ≡ some d) where
  pub value_more : (a : ℕ) (s : Text) {n : ℕ} → digits_value radix a s ≡ some n → digits_value radix a (s ++ (c ∷ [])) ≡ some (n * radix + d)
  unfolding digits_value let_some◌else◌then◌
  value_more a [] e = rw h (cc)
  value_more a (x ∷ xs) {n} e = step (to_digit radix x) (λ b. value_more b xs) e
    where
      step : (o : Option ℕ) → ((b : ℕ) → digits_value radix b xs ≡ some n → digits_value radix b (xs ++ (c ∷ [])) ≡ some (n * radix + d))
          → (let_some o else none then λ v. digits_value radix (a * radix + v) xs) ≡ some n
          → (let_some o else none then λ v. digits_value radix (a * radix + v) (xs ++ (c ∷ []))) ≡ some (n * radix + d)
      step none more q = cc
      step (some v) more q = more (a * radix + v) q

-- digits begin with no byte that is no digit
pub begins-with_digit : (radix a b : ℕ) (p s : Text) {n : ℕ} → to_digit radix b ≡ none → digits_value radix a s ≡ some n → starts_with s (b ∷ p) ≡ false
unfolding ◌and◌ digits_value let_some◌else◌then◌
begins-with_digit radix a b p [] z e = refl
begins-with_digit radix a b p (x ∷ xs) {n} z e = step (eqb x b) refl
  where
    step : (t : Bool) → eqb x b ≡ t → (t and starts_with xs p) ≡ false
    step true q = let w : to_digit radix x ≡ none = rw (eqb-true x b q) z in let f : none ≡ some n = rw w at e in cc
    step false q = refl

-- digits hold no byte that is no digit
pub digits_without : (radix a b : ℕ) (s : Text) {n : ℕ} → to_digit radix b ≡ none → digits_value radix a s ≡ some n → contains s b ≡ false
unfolding ◌or◌ digits_value let_some◌else◌then◌
digits_without radix a b [] z e = refl
digits_without radix a b (x ∷ xs) {n} z e = step (λ m. digits_without radix m b xs z) (eqb b x) refl (to_digit radix x) refl e
  where
    step : ((m : ℕ) → digits_value radix m xs ≡ some n → contains xs b ≡ false) → (t : Bool) → eqb b x ≡ t → (o : Option ℕ) → to_digit radix x ≡ o
        → (let_some o else none then λ v. digits_value radix (a * radix + v) xs) ≡ some n
        → (t or contains xs b) ≡ false
    step more t q none r e = absurd (none-some e)
    step more true q (some v) r e = absurd (none-some (sym (rw (← eqb-true b x q) z) ∙ r))
    step more false q (some v) r e = more (a * radix + v) e

-- ---- edition 0

no_minus : to_digit 10 45 ≡ none
unfolding opened
no_minus = refl

no_plus : to_digit 10 43 ≡ none
unfolding opened
no_plus = refl

no_plus_16 : to_digit 16 43 ≡ none
unfolding opened
no_plus_16 = refl

-- what follows a bound that was kept
kept_then {ℓ κ} : {A : Type ℓ} {B : Type κ} (b : Bool) (x : A) (k : A → Option B) → (let_some (when b then some x else none) else none then k) ≡ (when b then k x else none)
unfolding when◌then◌else◌ let_some◌else◌then◌
kept_then true x k = refl
kept_then false x k = refl

pub no_prefix : (p s : Text) → starts_with s p ≡ false → strip_prefix p s ≡ none
unfolding strip_prefix when◌then◌else◌
no_prefix p s e = rw e

module _ {n : ℕ} (s : Text) (f : is_empty s ≡ false) where
  unsigned_is : (radix : ℕ) → digits_value radix 0 s ≡ some n → unsigned radix s ≡ some n
  unfolding unsigned when◌then◌else◌
  unsigned_is radix e = rw f e

  read_i64_is : digits_value 10 0 s ≡ some n → read_i64 s ≡ (when ltb n (2 ^ 63) then some (pos n) else none)
  unfolding read_i64 let_some◌else◌then◌
  read_i64_is e =
      rw (no_prefix (bytes "-") s (begins-with_digit 10 0 45 [] s no_minus e), no_prefix (bytes "+") s (begins-with_digit 10 0 43 [] s no_plus e), unsigned_is 10 e)

  read-u64_is : digits_value 16 0 s ≡ some n → read_u64 16 s ≡ (when ltb n (2 ^ 64) then some n else none)
  unfolding read_u64 let_some◌else◌then◌
  read-u64_is e = rw (no_prefix (bytes "+") s (begins-with_digit 16 0 43 [] s no_plus_16 e), unsigned_is 16 e)

  -- decimal digits alone
  pub read-decimal : starts_with s (bytes "0x") ≡ false → digits_value 10 0 s ≡ some n
      → parse_c_number s ≡ (when ltb n (2 ^ 63) then some (pos n) else none)
  unfolding parse_c_number let_some◌else◌then◌ when◌then◌else◌
  read-decimal x e =
      let m : starts_with s (bytes "-") ≡ false = begins-with_digit 10 0 45 [] s no_minus e in
      rw (no_prefix (bytes "-") s m, m, no_prefix (bytes "0x") s x, read_i64_is e) (kept_then (ltb n (2 ^ 63)) (pos n) some)

  -- hexadecimal digits behind `0x`
  pub read-hexadecimal : digits_value 16 0 s ≡ some n → parse_c_number (bytes "0x" ++ s) ≡ (when ltb n (2 ^ 64) then some (as_i64 n) else none)
  unfolding parse_c_number let_some◌else◌then◌ strip_prefix when◌then◌else◌ ◌and◌
  read-hexadecimal e = rw (read-u64_is e, kept_then (ltb n (2 ^ 64)) n (λ m. some (as_i64 m))) (kept_then (ltb n (2 ^ 64)) (as_i64 n) some)

-- ---- a minus in front

-- the negation of a number that was read
unfoldable pub negated : Option ℤ → Option ℤ
negated o = let_some o else none then λ n. some (wrap (neg_ℤ n))

same_some {ℓ} : {A : Type ℓ} (o : Option A) → (let_some o else none then λ a. some a) ≡ o
unfolding let_some◌else◌then◌
same_some none = refl
same_some (some a) = refl

-- the Rust's number after the first minus
unfoldable unnegated : Text → Option ℤ
unnegated s =
    let_some (strip_prefix (bytes "0x") s) else read_i64 s then λ h.
    let_some (read_u64 16 h) else none then λ n. some (as_i64 n)

without_minus : (s : Text) → strip_prefix (bytes "-") (bytes "-" ++ s) ≡ some s
unfolding strip_prefix when◌then◌else◌ ◌and◌
without_minus s = refl

behind-minus : (s : Text) → parse_c_number (bytes "-" ++ s) ≡ negated (unnegated s)
unfolding negated parse_c_number unnegated when◌then◌else◌ ◌and◌ let_some◌else◌then◌
behind-minus s = rw (without_minus s) refl

no_sign : (s : Text) → starts_with s (bytes "-") ≡ false → parse_c_number s ≡ unnegated s
unfolding parse_c_number unnegated when◌then◌else◌ let_some◌else◌then◌
no_sign s e = rw (no_prefix (bytes "-") s e, e) (same_some (unnegated s))

-- where no second one follows
pub minus_0 : (s : Text) → starts_with s (bytes "-") ≡ false → parse_c_number (bytes "-" ++ s) ≡ negated (parse_c_number s)
minus_0 s e = behind-minus s ∙ ap negated (sym (no_sign s e))

pub minus_1 : (s : Text) → parse_2024 (bytes "-" ++ s) ≡ negated (read_constant s)
unfolding negated parse_2024 let_some◌else◌then◌ strip_prefix when◌then◌else◌ ◌and◌
minus_1 s = refl

pub plain_1 : (s : Text) → starts_with s (bytes "-") ≡ false → parse_2024 s ≡ read_constant s
unfolding parse_2024 let_some◌else◌then◌ strip_prefix when◌then◌else◌
plain_1 s e = rw e refl

-- ---- edition 1

-- a row without quotes
pub unquoted_same : (s : Text) → contains s 39 ≡ false → unquoted true s ≡ some s
unfolding unquoted let_some◌else◌then◌ when◌then◌else◌
unquoted_same [] h = refl
unquoted_same (c ∷ cs) h = rw (other c (neither h).0, unquoted_same cs (neither h).1) refl
  where
    other : (c : ℕ) → eqb 39 c ≡ false → eqb c 39 ≡ false
    other c e = ne_eqb c 39 (λ q. eqb-false 39 c e (sym q))

pub unquoted-row : (s : Text) → is_empty s ≡ false → contains s 39 ≡ false → unquoted false s ≡ some s
unfolding unquoted let_some◌else◌then◌ when◌then◌else◌
unquoted-row [] f h = absurd (true≢false f)
unquoted-row (c ∷ cs) f h = rw (ne_eqb c 39 (λ q. eqb-false 39 c (neither h).0 (sym q)), unquoted_same cs (neither h).1) refl

-- the digits behind a prefix
module _ (s : Text) where
  pub base_0x : base_of (bytes "0x" ++ s) ≡ 16
  unfolding base_of ◌and◌ ◌or◌ when◌then◌else◌
  base_0x = refl

  pub base_0X : base_of (bytes "0X" ++ s) ≡ 16
  unfolding base_of ◌and◌ ◌or◌ when◌then◌else◌
  base_0X = refl

  pub base_0b : base_of (bytes "0b" ++ s) ≡ 2
  unfolding base_of ◌and◌ ◌or◌ when◌then◌else◌
  base_0b = refl

  pub base_0B : base_of (bytes "0B" ++ s) ≡ 2
  unfolding base_of ◌and◌ ◌or◌ when◌then◌else◌
  base_0B = refl

-- what is read of a base and its digits
pub read-constant_is : (s ds : Text) {n : ℕ} → constant_digits s ≡ some ds → digits_value (base_of s) 0 ds ≡ some n
    → read_constant s ≡ (when ltb n (value_limit (base_of s)) then some (as_i64 n) else none)
unfolding read_constant constant_value let_some◌else◌then◌
read-constant_is s ds d e = rw (d, e) refl
