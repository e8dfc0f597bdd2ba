-- C's integer constants of the 2024 edition, and what edition 1 reads: every unsuffixed constant within the stated sizes, to its value, and nothing
-- else. Assumes nothing.
use Prim.Native.Nat.{ℕ, zero, suc, ◌+◌, ◌*◌, ◌<◌, ◌^◌}
use native.Mathlib.Omega.{arith}
use mathlib.Core.Path.{◌≡◌, refl, sym, ap, ◌∙◌, subst, subst⁻¹}
use mathlib.Core.Bool.{Bool, true, false, false≢true}
use mathlib.Core.List.{List, [], ◌∷◌, ◌++◌, map, append_assoc, append-nil}
use mathlib.Core.Option.{Option, none, some}
use lib.Dec.{eqb, ltb}
use lib.ListN.{length, drop}
use lib.IntN.{ℤ, pos}
use borrow.Author.Tests.{eqb-true, lt-ltb, ltb-true}
use Rattle.reference.specs.Control.{◌and◌, ◌or◌, when◌then◌else◌, let_some◌else◌then◌}
use Rattle.reference.specs.Lists.{any}
use Rattle.reference.specs.Text.{Text, bytes, starts_with, contains, strip_prefix}
use Rattle.reference.specs.Numbers.{to_digit, digits_value, as_i64, base_of, prefix_size, unquoted, constant_digits, constant_value, value_limit, read_constant, parse_2024, read_number}
use Rattle.reference.proofs.Opened.{opened}
use Rattle.reference.proofs.Cases.{by-if, by-some, both, neither, either, none-some, some_inj, bind-some, if_some, true-false}
use Rattle.reference.proofs.Numerals.{base_0x, base_0X, base_0b, base_0B, read-constant_is, minus_1, plain_1, negated}
use Rattle.books.specs.Tables.{◌∈◌}
use Rattle.books.specs.Constants.{digits, nonzero_digits, octal_digits, hexadecimal_digits, hexadecimal_prefixes}
use Rattle.books.specs.Constants2024.{quote_opt, binary_digits, binary_prefixes, Decimal, nonzero_digit, then_digit, Octal, zero_digit, then_octal, HexadecimalDigits, hexadecimal_digit}
use Rattle.books.specs.Constants2024.{then_hexadecimal, Hexadecimal, prefix_digits, Binary, prefix_digit, then_binary, Unsuffixed, decimal, octal, hexadecimal, binary, integer_suffix, Sized}
use Rattle.books.specs.Constants2024.{small_decimal, small_octal, small_hexadecimal, small_binary, Numeral, plain, minus}
use Rattle.books.proofs.Entries.{at_each}
use Rattle.books.proofs.Reading.{as_i64_is}
use Rattle.books.proofs.Grammar.{read_as, value, digits_are, nonzero_digits-are, hexadecimal-digits-are, no_zero, any-right, free, Free, free-digit}
use Rattle.books.proofs.Rows.{in_table, Spells, spells_one, spells_more, grown}

-- ---- digits

octal-digits-are : map (read_as 8) octal_digits ≡ map value octal_digits
unfolding opened
octal-digits-are = refl

binary-digits-are : map (read_as 2) binary_digits ≡ map value binary_digits
unfolding opened
binary-digits-are = refl

no_quote_10 : to_digit 10 39 ≡ none
unfolding opened
no_quote_10 = refl

no_quote_8 : to_digit 8 39 ≡ none
unfolding opened
no_quote_8 = refl

no_quote_16 : to_digit 16 39 ≡ none
unfolding opened
no_quote_16 = refl

no_quote_2 : to_digit 2 39 ≡ none
unfolding opened
no_quote_2 = refl

-- ---- from the grammar: rows

decimal-spells : {s : Text} {n : ℕ} → Decimal s n → Spells 10 s n
decimal-spells (nonzero_digit {c} h) = spells_one 10 no_quote_10 c (at_each (read_as 10) value nonzero_digits nonzero_digits-are h)
decimal-spells (then_digit {c = c} r q h) = spells_more 10 no_quote_10 c (at_each (read_as 10) value digits digits_are h) (decimal-spells r) q

octal-spells : {s : Text} {n : ℕ} → Octal s n → Spells 8 s n
octal-spells zero_digit = spells_one 8 no_quote_8 48 (at_each (read_as 8) value octal_digits octal-digits-are (0, refl))
octal-spells (then_octal {c = c} r q h) = spells_more 8 no_quote_8 c (at_each (read_as 8) value octal_digits octal-digits-are h) (octal-spells r) q

hexadecimal-spells : {s : Text} {n : ℕ} → HexadecimalDigits s n → Spells 16 s n
hexadecimal-spells (hexadecimal_digit {c} h) = spells_one 16 no_quote_16 c (at_each (read_as 16) value hexadecimal_digits hexadecimal-digits-are h)
hexadecimal-spells (then_hexadecimal {c = c} r q h) =
    spells_more 16 no_quote_16 c (at_each (read_as 16) value hexadecimal_digits hexadecimal-digits-are h) (hexadecimal-spells r) q

-- a prefix, and a row behind it
pub record Behind (prefixes : List Text) (base : ℕ) (s : Text) (n : ℕ) : Type 0 where
  pub prefix : Text
  pub rest : Text
  pub known : prefix ∈ prefixes
  pub whole : s ≡ prefix ++ rest
  pub spells : Spells base rest n

pub binary-spells : {s : Text} {n : ℕ} → Binary s n → Behind binary_prefixes 2 s n
binary-spells (prefix_digit {p} {c} m h) =
    record { prefix = p; rest = c ∷ []; known = m; whole = refl; spells = spells_one 2 no_quote_2 c (at_each (read_as 2) value binary_digits binary-digits-are h) }
binary-spells (then_binary {s} {q} {n} {c} {d} r m h) = one_more (binary-spells r)
  where
    one_more : Behind binary_prefixes 2 s n → Behind binary_prefixes 2 (s ++ q ++ (c ∷ [])) (n * 2 + d)
    one_more b =
        record {
          prefix = b.prefix;
          rest = b.rest ++ q ++ (c ∷ []);
          known = b.known;
          whole = ap (λ (t : Text). t ++ q ++ (c ∷ [])) b.whole ∙ ap (◌++ (c ∷ [])) (append_assoc b.prefix b.rest q) ∙ append_assoc b.prefix (b.rest ++ q) (c ∷ []);
          spells = spells_more 2 no_quote_2 c (at_each (read_as 2) value binary_digits binary-digits-are h) b.spells m;
        }

-- ---- from the grammar: bases

decimal-begins : {s : Text} {n : ℕ} → Decimal s n → (p t : Text) → starts_with (s ++ t) (48 ∷ p) ≡ false
unfolding ◌and◌
decimal-begins (nonzero_digit h) p t = rw (at_each (λ e. eqb e.0 48) (λ e. false) nonzero_digits no_zero h)
decimal-begins (then_digit {s} {q} {c = c} r m h) p t = rw (append_assoc (s ++ q) (c ∷ []) t, append_assoc s q (c ∷ t)) (decimal-begins r p (q ++ c ∷ t))

pub decimal-base : {s : Text} {n : ℕ} → Decimal s n → base_of s ≡ 10
unfolding base_of when◌then◌else◌ ◌or◌
decimal-base {s} r =
    let b : (p : Text) → starts_with s (48 ∷ p) ≡ false = λ p. rw append-nil at (decimal-begins r p []) in
    rw (b (bytes "x"), b (bytes "X"), b (bytes "b"), b (bytes "B"), b []) refl

-- bytes that a constant does not hold
module _ (p : ℕ → Bool) (f : any p (bytes "'") ≡ false) where
  quote-free : {q : Text} → q ∈ quote_opt → any p q ≡ false
  quote-free (zero, e) = rw (← (some_inj e)) refl
  quote-free (suc zero, e) = rw (← (some_inj e)) f
  quote-free (suc (suc i), e) = absurd (none-some e)

  one_free : (s q : Text) (c : ℕ) → any p s ≡ false → q ∈ quote_opt → any p (c ∷ []) ≡ false → any p (s ++ q ++ (c ∷ [])) ≡ false
  one_free s q c h m d = free p (s ++ q) (c ∷ []) (free p s q h (quote-free m)) d

  pub decimal-free : Free p nonzero_digits → Free p digits → {s : Text} {n : ℕ} → Decimal s n → any p s ≡ false
  decimal-free g k (nonzero_digit h) = free-digit p nonzero_digits g h
  decimal-free g k (then_digit {s} {q} {c = c} r m h) = one_free s q c (decimal-free g k r) m (free-digit p digits k h)

  pub octal-free : any p (bytes "0") ≡ false → Free p octal_digits → {s : Text} {n : ℕ} → Octal s n → any p s ≡ false
  octal-free z g zero_digit = z
  octal-free z g (then_octal {s} {q} {c = c} r m h) = one_free s q c (octal-free z g r) m (free-digit p octal_digits g h)

  hexadecimal-row-free : Free p hexadecimal_digits → {s : Text} {n : ℕ} → HexadecimalDigits s n → any p s ≡ false
  hexadecimal-row-free g (hexadecimal_digit h) = free-digit p hexadecimal_digits g h
  hexadecimal-row-free g (then_hexadecimal {s} {q} {c = c} r m h) = one_free s q c (hexadecimal-row-free g r) m (free-digit p hexadecimal_digits g h)

  pub hexadecimal-free : map (any p) hexadecimal_prefixes ≡ map (λ x. false) hexadecimal_prefixes → Free p hexadecimal_digits → {s : Text} {n : ℕ} → Hexadecimal s n → any p s ≡ false
  hexadecimal-free z g (prefix_digits {p = x} {s} m r) = free p x s (at_each (any p) (λ x. false) hexadecimal_prefixes z m) (hexadecimal-row-free g r)

  pub binary-free : map (any p) binary_prefixes ≡ map (λ x. false) binary_prefixes → Free p binary_digits → {s : Text} {n : ℕ} → Binary s n → any p s ≡ false
  binary-free z g (prefix_digit {p = x} {c} m h) = free p x (c ∷ []) (at_each (any p) (λ x. false) binary_prefixes z m) (free-digit p binary_digits g h)
  binary-free z g (then_binary {s} {q} {c = c} r m h) = one_free s q c (binary-free z g r) m (free-digit p binary_digits g h)

-- no letter behind the first byte
second : (p : ℕ → Bool) (x : ℕ) (s : Text) → p x ≡ true → any p s ≡ false → starts_with s (48 ∷ x ∷ []) ≡ false
unfolding ◌and◌
second p x [] h f = refl
second p x (c ∷ []) h f = by (eqb c 48)
  where
    by : (b : Bool) → (b and false) ≡ false
    by true = refl
    by false = refl
second p x (c ∷ y ∷ s) h f = by (eqb c 48) (eqb y x) refl
  where
    by : (a b : Bool) → eqb y x ≡ b → (a and b and true) ≡ false
    by false b e = refl
    by true false e = refl
    by true true e = absurd (true-false h (subst (λ (k : ℕ). p k ≡ false) (eqb-true y x e) (neither (neither f).1).0))

abbrev prefix_letter : ℕ → Bool
prefix_letter c = contains (bytes "xXbB") c

begins_with-zero : {s : Text} {n : ℕ} → Octal s n → (rest : Text) × (s ≡ 48 ∷ rest)
begins_with-zero zero_digit = ([], refl)
begins_with-zero (then_octal {q = q} {c = c} r m h) = let z = begins_with-zero r in (z.0 ++ q ++ (c ∷ []), ap (λ (t : Text). t ++ q ++ (c ∷ [])) z.1)

starts_with-zero : (s rest : Text) → s ≡ 48 ∷ rest → starts_with s (bytes "0") ≡ true
unfolding ◌and◌
starts_with-zero s rest e = rw e refl

octal-letters : {s : Text} {n : ℕ} → Octal s n → any prefix_letter s ≡ false
unfolding opened
octal-letters r = octal-free prefix_letter refl refl refl r

letters : map prefix_letter (bytes "xXbB") ≡ true ∷ true ∷ true ∷ true ∷ []
unfolding opened
letters = refl

pub octal-base : {s : Text} {n : ℕ} → Octal s n → base_of s ≡ 8
unfolding base_of when◌then◌else◌ ◌or◌
octal-base {s} r =
    let z = begins_with-zero r in
    let b : (x : ℕ) → prefix_letter x ≡ true → starts_with s (48 ∷ x ∷ []) ≡ false = λ x h. second prefix_letter x s h (octal-letters r) in
    rw (b 120 refl, b 88 refl, b 98 refl, b 66 refl, starts_with-zero s z.0 z.1) refl

-- ---- THE GRAMMAR'S NUMBERS ARE READ

read-row : (s : Text) (base : ℕ) {n : ℕ} → base_of s ≡ base → Spells base (drop (prefix_size base) s) n
    → read_constant s ≡ (when ltb n (value_limit base) then some (as_i64 n) else none)
unfolding constant_digits
read-row s base {n} b r = read-constant_is s r.digits {n = n} (rw b r.without_quotes) (rw b r.comes_to) ∙ rw b refl

pub pos_is : (n : ℕ) → n < 2 ^ 63 → as_i64 n ≡ pos n
pos_is n h = as_i64_is n (omega arith) ∙ rw (lt-ltb n (2 ^ 63) h) refl

pub base-hexadecimal : (p s : Text) → p ∈ hexadecimal_prefixes → (base_of (p ++ s) ≡ 16) × (drop 2 (p ++ s) ≡ s)
base-hexadecimal p s (zero, e) = rw (← (some_inj e)) (base_0x s, refl)
base-hexadecimal p s (suc zero, e) = rw (← (some_inj e)) (base_0X s, refl)
base-hexadecimal p s (suc (suc i), e) = absurd (none-some e)

pub base-binary : (p s : Text) → p ∈ binary_prefixes → (base_of (p ++ s) ≡ 2) × (drop 2 (p ++ s) ≡ s)
base-binary p s (zero, e) = rw (← (some_inj e)) (base_0b s, refl)
base-binary p s (suc zero, e) = rw (← (some_inj e)) (base_0B s, refl)
base-binary p s (suc (suc i), e) = absurd (none-some e)

module _ {s : Text} {n : ℕ} where
  pub decimal_is : Decimal s n → read_constant s ≡ (when ltb n (2 ^ 63) then some (as_i64 n) else none)
  unfolding prefix_size value_limit when◌then◌else◌ ◌or◌
  decimal_is r = read-row s 10 (decimal-base r) (decimal-spells r)

  pub octal_is : Octal s n → read_constant s ≡ (when ltb n (2 ^ 64) then some (as_i64 n) else none)
  unfolding prefix_size value_limit when◌then◌else◌ ◌or◌
  octal_is r = read-row s 8 (octal-base r) (octal-spells r)

  pub binary_is : Binary s n → read_constant s ≡ (when ltb n (2 ^ 64) then some (as_i64 n) else none)
  unfolding prefix_size value_limit when◌then◌else◌ ◌or◌
  binary_is r =
      let q = binary-spells r in
      let b = base-binary q.prefix q.rest q.known in
      rw q.whole (read-row (q.prefix ++ q.rest) 2 {n = n} b.0 (rw b.1 q.spells))

pub hexadecimal_is : {s : Text} {n : ℕ} → Hexadecimal s n → read_constant s ≡ (when ltb n (2 ^ 64) then some (as_i64 n) else none)
unfolding prefix_size value_limit when◌then◌else◌ ◌or◌
hexadecimal_is {n = n} (prefix_digits {p} {s} m r) =
    let b = base-hexadecimal p s m in
    read-row (p ++ s) 16 {n = n} b.0 (rw b.1 (hexadecimal-spells r))

-- a number below the bound is read
below {ℓ} : {A : Type ℓ} (n bound : ℕ) (a : A) → n < bound → (when ltb n bound then some a else none) ≡ some a
unfolding when◌then◌else◌
below n bound a h = rw (lt-ltb n bound h)

pub sized-is_read : {s : Text} {z : ℤ} → Sized s z → read_constant s ≡ some z
sized-is_read (small_decimal {s} {n} r h) = decimal_is r ∙ below n (2 ^ 63) _ h ∙ ap some (pos_is n h)
sized-is_read (small_octal {s} {n} r h) = octal_is r ∙ below n (2 ^ 64) _ h ∙ ap some (as_i64_is n h)
sized-is_read (small_hexadecimal {s} {n} r h) = hexadecimal_is r ∙ below n (2 ^ 64) _ h ∙ ap some (as_i64_is n h)
sized-is_read (small_binary {s} {n} r h) = binary_is r ∙ below n (2 ^ 64) _ h ∙ ap some (as_i64_is n h)

-- bytes that no constant holds
module _ (p : ℕ → Bool) (q : any p (bytes "'") ≡ false) (d : Free p nonzero_digits) (e : Free p hexadecimal_digits) (z : any p (bytes "0") ≡ false)
    (x : map (any p) hexadecimal_prefixes ≡ map (λ w. false) hexadecimal_prefixes) (b : map (any p) binary_prefixes ≡ map (λ w. false) binary_prefixes)
    (o : Free p octal_digits) (t : Free p digits) (u : Free p binary_digits) where
  pub unsuffixed-free : {s : Text} {n : ℕ} → Unsuffixed s n → any p s ≡ false
  unsuffixed-free (decimal r) = decimal-free p q d t r
  unsuffixed-free (octal r) = octal-free p q z o r
  unsuffixed-free (hexadecimal r) = hexadecimal-free p q x e r
  unsuffixed-free (binary r) = binary-free p q b u r

pub sized-constant : {s : Text} {z : ℤ} → Sized s z → (n : ℕ) × Unsuffixed s n
sized-constant (small_decimal {n = n} r h) = (n, decimal r)
sized-constant (small_octal {n = n} r h) = (n, octal r)
sized-constant (small_hexadecimal {n = n} r h) = (n, hexadecimal r)
sized-constant (small_binary {n = n} r h) = (n, binary r)

abbrev sign : ℕ → Bool
sign c = eqb 45 c

unsuffixed-unsigned : {s : Text} {n : ℕ} → Unsuffixed s n → any sign s ≡ false
unfolding opened
unsuffixed-unsigned = unsuffixed-free sign refl refl refl refl refl refl refl refl refl

no_minus : (s : Text) → any sign s ≡ false → starts_with s (bytes "-") ≡ false
unfolding ◌and◌
no_minus [] f = refl
no_minus (c ∷ s) f = by (eqb c 45) refl
  where
    by : (b : Bool) → eqb c 45 ≡ b → (b and true) ≡ false
    by false e = refl
    by true e = absurd (true-false (rw (eqb-true c 45 e) refl) (neither f).0)

pub unsuffixed-plain : {s : Text} {n : ℕ} → Unsuffixed s n → starts_with s (bytes "-") ≡ false
unsuffixed-plain {s} r = no_minus s (unsuffixed-unsigned r)

pub in_edition_1 : (s : Text) → read_number 1 s ≡ parse_2024 s
unfolding read_number when◌then◌else◌
in_edition_1 s = refl

pub numeral_is_read : {s : Text} {z : ℤ} → Numeral s z → read_number 1 s ≡ some z
unfolding negated let_some◌else◌then◌
numeral_is_read (plain {s} r) = in_edition_1 s ∙ plain_1 s (unsuffixed-plain (sized-constant r).1) ∙ sized-is_read r
numeral_is_read (minus {s} r) = in_edition_1 (bytes "-" ++ s) ∙ minus_1 s ∙ rw (sized-is_read r) refl

-- ---- NOTHING ELSE IS READ

in_digits : {c d : ℕ} → to_digit 10 c ≡ some d → (c, d) ∈ digits
unfolding opened
in_digits = in_table 10 digits (omega arith) refl

in_octal_digits : {c d : ℕ} → to_digit 8 c ≡ some d → (c, d) ∈ octal_digits
unfolding opened
in_octal_digits = in_table 8 octal_digits (omega arith) refl

pub in_hexadecimal_digits : {c d : ℕ} → to_digit 16 c ≡ some d → (c, d) ∈ hexadecimal_digits
unfolding opened
in_hexadecimal_digits = in_table 16 hexadecimal_digits (omega arith) refl

in_binary_digits : {c d : ℕ} → to_digit 2 c ≡ some d → (c, d) ∈ binary_digits
unfolding opened
in_binary_digits = in_table 2 binary_digits (omega arith) refl

-- the base of a text, by what it begins with
data Based (s : Text) : ℕ → Type 0 where
  sixteen : (p : Text) → p ∈ hexadecimal_prefixes → s ≡ p ++ drop 2 s → Based s 16
  two : (p : Text) → p ∈ binary_prefixes → s ≡ p ++ drop 2 s → Based s 2
  eight : starts_with s (bytes "0") ≡ true → Based s 8
  ten : starts_with s (bytes "0") ≡ false → Based s 10

pub begins : (s p : Text) → starts_with s p ≡ true → s ≡ p ++ drop (length p) s
begins s [] h = refl
begins [] (y ∷ p) h = absurd (false≢true h)
begins (x ∷ s) (y ∷ p) h = λ k. eqb-true x y (both h).0 k ∷ begins s p (both h).1 k

based : (s : Text) → Based s (base_of s)
unfolding base_of
based s =
    by-if (Based s)
    (λ h. either (Based s 16) h (λ t. sixteen (bytes "0x") (0, refl) (begins s (bytes "0x") t)) (λ t. sixteen (bytes "0X") (1, refl) (begins s (bytes "0X") t)))
    (λ n. by-if (Based s)
    (λ h. either (Based s 2) h (λ t. two (bytes "0b") (0, refl) (begins s (bytes "0b") t)) (λ t. two (bytes "0B") (1, refl) (begins s (bytes "0B") t)))
    (λ m. by-if (Based s) eight ten))

-- rows that are read, in the grammar
module _ (s : Text) {ds : Text} {n : ℕ} (u : unquoted false s ≡ some ds) where
  decimal-row : starts_with s (bytes "0") ≡ false → digits_value 10 0 ds ≡ some n → Decimal s n
  unfolding ◌and◌
  decimal-row z e = grown 10 Decimal (λ s q n c d g m h. then_digit g m (in_digits h)) s first u e
    where
      nonzero : (c d : ℕ) (rest : Text) → s ≡ c ∷ rest → (c, d) ∈ digits → (c, d) ∈ nonzero_digits
      nonzero c d rest w (zero, h) =
          let k : 48 ≡ c = ap (λ (x : ℕ × ℕ). x.0) (some_inj h) in
          absurd (true-false (rw (w, ← k) refl) z)
      nonzero c d rest w (suc i, h) = (i, h)

      first : (c d : ℕ) (rest : Text) → s ≡ c ∷ rest → to_digit 10 c ≡ some d → Decimal (c ∷ []) d
      first c d rest w h = nonzero_digit (nonzero c d rest w (in_digits h))

  octal-row : starts_with s (bytes "0") ≡ true → digits_value 8 0 ds ≡ some n → Octal s n
  octal-row z e = grown 8 Octal (λ s q n c d g m h. then_octal g m (in_octal_digits h)) s first u e
    where
      first : (c d : ℕ) (rest : Text) → s ≡ c ∷ rest → to_digit 8 c ≡ some d → Octal (c ∷ []) d
      first c d rest w h =
          let k : c ≡ 48 = eqb-true c 48 (both (rw w at z)).0 in
          let v : 0 ≡ d = some_inj (sym (at_each (read_as 8) value octal_digits octal-digits-are (0, refl)) ∙ rw k at h) in
          rw (k, ← v) zero_digit

  hexadecimal-row : digits_value 16 0 ds ≡ some n → HexadecimalDigits s n
  hexadecimal-row e =
      grown 16 HexadecimalDigits (λ s q n c d g m h. then_hexadecimal g m (in_hexadecimal_digits h)) s (λ c d rest w h. hexadecimal_digit (in_hexadecimal_digits h)) u e

  binary-row : (p : Text) → p ∈ binary_prefixes → digits_value 2 0 ds ≡ some n → Binary (p ++ s) n
  binary-row p k e =
      grown 2 (λ t n. Binary (p ++ t) n)
      (λ s q n c d g m h.
      subst (λ (t : Text). Binary t (n * 2 + d)) (ap (◌++ (c ∷ [])) (append_assoc p s q) ∙ append_assoc p (s ++ q) (c ∷ [])) (then_binary g m (in_binary_digits h)))
      s (λ c d rest w h. prefix_digit k (in_binary_digits h)) u e

module _ (s : Text) {ds : Text} {n : ℕ} where
  in_grammar : (base : ℕ) → Based s base → unquoted false (drop (prefix_size base) s) ≡ some ds → digits_value base 0 ds ≡ some n → n < value_limit base
      → Sized s (as_i64 n)
  unfolding prefix_size value_limit when◌then◌else◌ ◌or◌
  in_grammar base (sixteen p m w) u e h =
      subst⁻¹ (Sized s) (as_i64_is n h) (small_hexadecimal (subst⁻¹ (λ (t : Text). Hexadecimal t n) w (prefix_digits m (hexadecimal-row (drop 2 s) u e))) h)
  in_grammar base (two p m w) u e h = subst⁻¹ (Sized s) (as_i64_is n h) (small_binary (subst⁻¹ (λ (t : Text). Binary t n) w (binary-row (drop 2 s) u p m e)) h)
  in_grammar base (eight z) u e h = subst⁻¹ (Sized s) (as_i64_is n h) (small_octal (octal-row s u z e) h)
  in_grammar base (ten z) u e h = subst⁻¹ (Sized s) (pos_is n h) (small_decimal (decimal-row s u z e) h)

pub read_is-sized : (s : Text) {z : ℤ} → read_constant s ≡ some z → Sized s z
unfolding read_constant constant_value constant_digits
read_is-sized s e =
    let r = bind-some e in
    let d = bind-some r.1 in
    let b = if_some r.2 in
    subst (Sized s) (some_inj b.1) (in_grammar s (base_of s) (based s) d.1 d.2 (ltb-true r.0 (value_limit (base_of s)) b.0))

pub read_is_numeral : (s : Text) {z : ℤ} → read_number 1 s ≡ some z → Numeral s z
unfolding parse_2024 strip_prefix
read_is_numeral s {z} e =
    by-some (λ (o : Option ℤ). o ≡ some z → Numeral s z)
    (λ n e. plain (read_is-sized s e))
    (λ r h e.
    let t = if_some h in
    let w : s ≡ bytes "-" ++ r = begins s (bytes "-") t.0 ∙ ap (bytes "-" ++◌) (some_inj t.1) in
    let v = bind-some e in
    subst⁻¹ (λ (x : Text). Numeral x z) w (subst (Numeral (bytes "-" ++ r)) (some_inj v.2) (minus (read_is-sized r v.1))))
    (sym (in_edition_1 s) ∙ e)

-- ---- never read

pub unread : (s : Text) → ((z : ℤ) → Numeral s z → ⊥) → read_number 1 s ≡ none
unread s f = by (read_number 1 s) refl
  where
    by : (o : Option ℤ) → read_number 1 s ≡ o → o ≡ none
    by none e = refl
    by (some z) e = absurd (f z (read_is_numeral s e))

abbrev suffix_letter : ℕ → Bool
suffix_letter c = contains (bytes "uUlLwW") c

numeral_letters : {s : Text} {z : ℤ} → Numeral s z → any suffix_letter s ≡ false
unfolding opened
numeral_letters (plain r) = unsuffixed-free suffix_letter refl refl refl refl refl refl refl refl refl (sized-constant r).1
numeral_letters (minus r) = unsuffixed-free suffix_letter refl refl refl refl refl refl refl refl refl (sized-constant r).1

pub suffixed-unread : (s : Text) {t : Text} → t ∈ integer_suffix → read_number 1 (s ++ t) ≡ none
unfolding opened
suffixed-unread s {t} m =
    unread (s ++ t) (λ z r. true-false (any-right suffix_letter s t (at_each (any suffix_letter) (λ x. true) integer_suffix refl m)) (numeral_letters r))
