-- Which texts are read as numbers: from the reader's answer back to the spelling. Assumes nothing.
use Prim.Native.Nat.{ℕ, zero, suc, ◌+◌, ◌-◌, ◌*◌, ◌<◌, ◌≤◌}
use native.Mathlib.Omega.{arith}
use mathlib.Core.Path.{◌≡◌, refl, ap, ◌∙◌}
use mathlib.Core.Bool.{Bool, true, false, true≢false, false≢true}
use mathlib.Core.List.{List, [], ◌∷◌, ◌++◌, map, append_assoc}
use mathlib.Core.Option.{Option, none, some}
use lib.Dec.{eqb}
use lib.ListN.{length, drop}
use lib.IntN.{ℤ}
use borrow.Author.Tests.{leb-true, ltb-true}
use Rattle.reference.specs.Control.{when◌then◌else◌, let_some◌else◌then◌}
use Rattle.reference.specs.Lists.{any, get}
use Rattle.reference.specs.Text.{Text, bytes, starts_with, contains, strip_prefix}
use Rattle.reference.specs.Numbers.{to_digit, digits_value, unsigned, read_u64, read_i64, as_i64, parse_c_number}
use Rattle.reference.proofs.Opened.{opened}
use Rattle.reference.proofs.Cases.{by-if, both, neither, same_number, some_inj, none-some, if_some, unless-some, bind-some}
use Rattle.books.specs.Tables.{words, ◌∈◌}
use Rattle.books.specs.Constants.{digits, nonzero_digits, octal_digits, hexadecimal_digits, Decimal, nonzero_digit, then_digit, Octal, zero_digit, then_octal, Hexadecimal, prefix_then}
use Rattle.books.specs.Constants.{then_hexadecimal, decimal, octal, hexadecimal, Constant}
use Rattle.books.specs.Spellings.{Digits, one, more, eight_or_nine, Spelling, constant, signed, signed_hexadecimal, no_octal, Spellings}
use Rattle.books.proofs.Entries.{at_each}
use Rattle.laws.proofs.Scans.{or_true, or_false, any_append}
use Rattle.books.proofs.Grammar.{signed_is_none, zero_then-eight_is_none}

-- ---- a digit's byte

data Byte (c d : ℕ) : Type 0 where
  figure : d < 10 → c ≡ 48 + d → Byte c d
  small : (k : ℕ) → d ≡ 10 + k → c ≡ 97 + k → Byte c d
  capital : (k : ℕ) → d ≡ 10 + k → c ≡ 65 + k → Byte c d

digit_byte : (radix c : ℕ) {d : ℕ} → radix ≤ 16 → to_digit radix c ≡ some d → (d < radix) × Byte c d
unfolding to_digit
digit_byte radix c {d} r e =
    let q = if_some e in
    let v = some_inj q.1 in
    let l : d < radix = rw v at (ltb-true _ radix q.0) in (
      l,
      by-if (λ (x : ℕ). x ≡ d → Byte c d)
          (λ t v. let h = both t in figure (omega (arith, leb-true 48 c h.0, leb-true c 57 h.1)) (omega (arith, leb-true 48 c h.0)))
          (λ _. by-if (λ (x : ℕ). x ≡ d → Byte c d)
          (λ t v. let h = both t in let b = leb-true 97 c h.0 in small (c - 97) (omega arith) (omega arith))
          (λ _. by-if (λ (x : ℕ). x ≡ d → Byte c d)
          (λ t v. let h = both t in let b = leb-true 65 c h.0 in capital (c - 65) (omega arith) (omega arith))
          (λ _ v. absurd (omega arith))))
          v,
    )

at_figure : (d : ℕ) → d < 10 → get digits d ≡ some (48 + d, d)
at_figure zero h = refl
at_figure (suc zero) h = refl
at_figure (suc (suc zero)) h = refl
at_figure (suc (suc (suc zero))) h = refl
at_figure (suc (suc (suc (suc zero)))) h = refl
at_figure (suc (suc (suc (suc (suc zero))))) h = refl
at_figure (suc (suc (suc (suc (suc (suc zero)))))) h = refl
at_figure (suc (suc (suc (suc (suc (suc (suc zero))))))) h = refl
at_figure (suc (suc (suc (suc (suc (suc (suc (suc zero)))))))) h = refl
at_figure (suc (suc (suc (suc (suc (suc (suc (suc (suc zero))))))))) h = refl
at_figure (suc (suc (suc (suc (suc (suc (suc (suc (suc (suc d)))))))))) h = absurd (omega arith)

at_low : (d : ℕ) → d < 10 → get hexadecimal_digits d ≡ some (48 + d, d)
at_low zero h = refl
at_low (suc zero) h = refl
at_low (suc (suc zero)) h = refl
at_low (suc (suc (suc zero))) h = refl
at_low (suc (suc (suc (suc zero)))) h = refl
at_low (suc (suc (suc (suc (suc zero))))) h = refl
at_low (suc (suc (suc (suc (suc (suc zero)))))) h = refl
at_low (suc (suc (suc (suc (suc (suc (suc zero))))))) h = refl
at_low (suc (suc (suc (suc (suc (suc (suc (suc zero)))))))) h = refl
at_low (suc (suc (suc (suc (suc (suc (suc (suc (suc zero))))))))) h = refl
at_low (suc (suc (suc (suc (suc (suc (suc (suc (suc (suc d)))))))))) h = absurd (omega arith)

at_small : (k : ℕ) → k < 6 → get hexadecimal_digits (10 + k) ≡ some (97 + k, 10 + k)
at_small zero h = refl
at_small (suc zero) h = refl
at_small (suc (suc zero)) h = refl
at_small (suc (suc (suc zero))) h = refl
at_small (suc (suc (suc (suc zero)))) h = refl
at_small (suc (suc (suc (suc (suc zero))))) h = refl
at_small (suc (suc (suc (suc (suc (suc k)))))) h = absurd (omega arith)

at_capital : (k : ℕ) → k < 6 → get hexadecimal_digits (16 + k) ≡ some (65 + k, 10 + k)
at_capital zero h = refl
at_capital (suc zero) h = refl
at_capital (suc (suc zero)) h = refl
at_capital (suc (suc (suc zero))) h = refl
at_capital (suc (suc (suc (suc zero)))) h = refl
at_capital (suc (suc (suc (suc (suc zero))))) h = refl
at_capital (suc (suc (suc (suc (suc (suc k)))))) h = absurd (omega arith)

decimal_digit : (c d : ℕ) → to_digit 10 c ≡ some d → (c, d) ∈ digits
decimal_digit c d e = let q = digit_byte 10 c (omega arith) e in go q.0 q.1
  where
    go : d < 10 → Byte c d → (c, d) ∈ digits
    go h (figure l w) = (d, rw w (at_figure d h))
    go h (small k v w) = absurd (omega arith)
    go h (capital k v w) = absurd (omega arith)

hexadecimal_digit : (c d : ℕ) → to_digit 16 c ≡ some d → (c, d) ∈ hexadecimal_digits
hexadecimal_digit c d e = let q = digit_byte 16 c (omega arith) e in go q.0 q.1
  where
    go : d < 16 → Byte c d → (c, d) ∈ hexadecimal_digits
    go h (figure l w) = (d, rw w (at_low d l))
    go h (small k v w) = (10 + k, rw (v, w) (at_small k (omega arith)))
    go h (capital k v w) = (16 + k, rw (v, w) (at_capital k (omega arith)))

-- ---- digits that were read

module _ (radix : ℕ) (table : List (ℕ × ℕ)) (in_table : (c d : ℕ) → to_digit radix c ≡ some d → (c, d) ∈ table) where
  digits-read : (a c : ℕ) (t : Text) {n : ℕ} → digits_value radix a (c ∷ t) ≡ some n → Digits table (c ∷ t)
  unfolding digits_value
  digits-read a c [] e = let q = bind-some e in one (in_table c q.0 q.1)
  digits-read a c (x ∷ xs) e = let q = bind-some e in more (in_table c q.0 q.1) (digits-read (a * radix + q.0) x xs q.2)

  unsigned-read : (s : Text) {n : ℕ} → unsigned radix s ≡ some n → Digits table s
  unfolding unsigned
  unsigned-read [] e = absurd (true≢false (unless-some e).0)
  unsigned-read (c ∷ t) e = digits-read 0 c t (unless-some e).1

-- ---- what stands in front of them

stripped : (p s : Text) → starts_with s p ≡ true → s ≡ p ++ drop (length p) s
stripped [] s e = refl
stripped (b ∷ p) [] e = absurd (false≢true e)
stripped (b ∷ p) (x ∷ s) e = let h : (eqb x b ≡ true) × (starts_with s p ≡ true) = both e in cc (same_number {m = x} {n = b} h.0, stripped p s h.1)

by-prefix {ℓ} : {B : Type ℓ} (P : B → Type 0) (p s : Text) (d : B) (k : Text → B) → P d → ((r : Text) → s ≡ p ++ r → P (k r))
    → P (let_some (strip_prefix p s) else d then k)
unfolding strip_prefix let_some◌else◌then◌
by-prefix P p s d k itself after = by-if (λ o. P (let_some o else d then k)) (λ e. after (drop (length p) s) (stripped p s e)) (λ e. itself)

record Fronted (fronts : List Text) (table : List (ℕ × ℕ)) (s : Text) : Type 0 where
  front : Text
  rest : Text
  known : front ∈ fronts
  spelled : Digits table rest
  whole : s ≡ front ++ rest

abbrev plus : List Text
plus = [] ∷ words "+"

abbrev plus-minus : List Text
plus-minus = [] ∷ words "+ -"

u64-read : (s : Text) {n : ℕ} → read_u64 16 s ≡ some n → Fronted plus hexadecimal_digits s
unfolding read_u64
u64-read s e = let q = bind-some e in
    by-prefix (λ r. unsigned 16 r ≡ some q.0 → Fronted plus hexadecimal_digits s) (bytes "+") s s (λ r. r)
    (λ u. record { front = []; rest = s; known = (0, refl); spelled = unsigned-read 16 hexadecimal_digits hexadecimal_digit s u; whole = refl })
    (λ r w u. record { front = bytes "+"; rest = r; known = (1, refl); spelled = unsigned-read 16 hexadecimal_digits hexadecimal_digit r u; whole = w })
    q.1

i64_read : (s : Text) {z : ℤ} → read_i64 s ≡ some z → Fronted plus-minus digits s
unfolding read_i64
i64_read s {z} e =
    by-prefix (λ (o : Option ℤ). o ≡ some z → Fronted plus-minus digits s) (bytes "-") s _ _
    (λ e. let q = bind-some e in
    by-prefix (λ r. unsigned 10 r ≡ some q.0 → Fronted plus-minus digits s) (bytes "+") s s (λ r. r)
    (λ u. record { front = []; rest = s; known = (0, refl); spelled = unsigned-read 10 digits decimal_digit s u; whole = refl })
    (λ r w u. record { front = bytes "+"; rest = r; known = (1, refl); spelled = unsigned-read 10 digits decimal_digit r u; whole = w })
    q.1)
    (λ r w e. record { front = bytes "-"; rest = r; known = (2, refl); spelled = unsigned-read 10 digits decimal_digit r (bind-some e).1; whole = w })
    e

-- ---- constants

decimal_grow : {s t : Text} {n : ℕ} → Decimal s n → Digits digits t → (m : ℕ) × Decimal (s ++ t) m
decimal_grow r (one h) = (_, then_digit r h)
decimal_grow {s = s} r (more {c = c} h g) = let q = decimal_grow {s = s ++ (c ∷ [])} (then_digit r h) g in (q.0, rw append_assoc at q.1)

hexadecimal_grow : {p s t : Text} {n : ℕ} → Hexadecimal p s n → Digits hexadecimal_digits t → (m : ℕ) × Hexadecimal p (s ++ t) m
hexadecimal_grow r (one h) = (_, then_hexadecimal r h)
hexadecimal_grow {s = s} r (more {c = c} h g) = let q = hexadecimal_grow {s = s ++ (c ∷ [])} (then_hexadecimal r h) g in (q.0, rw append_assoc at q.1)

octal-digit : (i : ℕ) {c d : ℕ} → get digits i ≡ some (c, d) → eight_or_nine c ≡ false → (c, d) ∈ octal_digits
unfolding opened
octal-digit zero e f = (0, e)
octal-digit (suc zero) e f = (1, e)
octal-digit (suc (suc zero)) e f = (2, e)
octal-digit (suc (suc (suc zero))) e f = (3, e)
octal-digit (suc (suc (suc (suc zero)))) e f = (4, e)
octal-digit (suc (suc (suc (suc (suc zero))))) e f = (5, e)
octal-digit (suc (suc (suc (suc (suc (suc zero)))))) e f = (6, e)
octal-digit (suc (suc (suc (suc (suc (suc (suc zero))))))) e f = (7, e)
octal-digit (suc (suc (suc (suc (suc (suc (suc (suc zero)))))))) {c} {d} e f = let z : 56 ≡ c = ap (λ (q : ℕ × ℕ). q.0) (some_inj e) in absurd (true≢false (rw (← z) at f))
octal-digit (suc (suc (suc (suc (suc (suc (suc (suc (suc zero))))))))) {c} {d} e f = let z : 57 ≡ c = ap (λ (q : ℕ × ℕ). q.0) (some_inj e) in absurd (true≢false (rw (← z) at f))
octal-digit (suc (suc (suc (suc (suc (suc (suc (suc (suc (suc i)))))))))) e f = absurd (none-some e)

octal_grow : {s t : Text} {n : ℕ} → Octal s n → Digits digits t → any eight_or_nine t ≡ false → (m : ℕ) × Octal (s ++ t) m
octal_grow r (one h) f = (_, then_octal r (octal-digit h.0 h.1 (neither f).0))
octal_grow {s = s} r (more {c = c} h g) f =
    let q = octal_grow {s = s ++ (c ∷ [])} (then_octal r (octal-digit h.0 h.1 (neither f).0)) g (neither f).1 in (q.0, rw append_assoc at q.1)

hexadecimal-constant : {t : Text} → Digits hexadecimal_digits t → Spelling (bytes "0x" ++ t)
hexadecimal-constant (one h) = constant (hexadecimal {p = bytes "0x"} (0, refl) (prefix_then h))
hexadecimal-constant (more {c} {d} h g) =
    let r : Hexadecimal (bytes "0x") (bytes "0x" ++ (c ∷ [])) d = prefix_then h in
    constant (hexadecimal {p = bytes "0x"} (0, refl) (hexadecimal_grow r g).1)

-- a zero, or another digit
by_first : {c d : ℕ} (P : ℕ → Type 0) → (c, d) ∈ digits → P 48 → ((c, d) ∈ nonzero_digits → P c) → P c
by_first {c} {d} P (zero, e) z n = let w : 48 ≡ c = ap (λ (q : ℕ × ℕ). q.0) (some_inj e) in rw (← w) z
by_first P (suc i, e) z n = n (i, e)

behind-zero : {t : Text} → Digits digits t → Spelling (48 ∷ t)
behind-zero {t} g = go (any eight_or_nine t) refl
  where
    go : (b : Bool) → any eight_or_nine t ≡ b → Spelling (48 ∷ t)
    go true e = no_octal g e
    go false e = constant (octal (octal_grow zero_digit g e).1)

plain : {t : Text} → Digits digits t → Spelling t
plain (one {c} h) = by_first (λ x. Spelling (x ∷ [])) h (constant (octal zero_digit)) (λ n. constant (decimal (nonzero_digit n)))
plain (more {c} {t = t} h g) = by_first (λ x. Spelling (x ∷ t)) h (behind-zero g) (λ n. constant (decimal (decimal_grow (nonzero_digit n) g).1))

-- ---- with the signs

decimal-plain : (s p t : Text) (i : ℕ) → get plus-minus i ≡ some p → Digits digits t → s ≡ p ++ t → Spelling s
decimal-plain s p t zero e g w = let z : [] ≡ p = some_inj e in rw (w, ← z) (plain g)
decimal-plain s p t (suc zero) e g w = rw w (signed (0, e) g)
decimal-plain s p t (suc (suc zero)) e g w = rw w (signed (1, e) g)
decimal-plain s p t (suc (suc (suc i))) e g w = absurd (none-some e)

decimal-minus : (s p t : Text) (i : ℕ) → get plus-minus i ≡ some p → Digits digits t → s ≡ bytes "-" ++ (p ++ t) → Spelling s
decimal-minus s p t zero e g w = let z : [] ≡ p = some_inj e in rw (w, ← z) (signed {p = bytes "-"} (1, refl) g)
decimal-minus s p t (suc zero) e g w = let z : bytes "+" ≡ p = some_inj e in rw (w, ← z) (signed {p = bytes "-+"} (2, refl) g)
decimal-minus s p t (suc (suc zero)) e g w = let z : bytes "-" ≡ p = some_inj e in rw (w, ← z) (signed {p = bytes "--"} (3, refl) g)
decimal-minus s p t (suc (suc (suc i))) e g w = absurd (none-some e)

hexadecimal-plain : (s p t : Text) (i : ℕ) → get plus i ≡ some p → Digits hexadecimal_digits t → s ≡ bytes "0x" ++ (p ++ t) → Spelling s
hexadecimal-plain s p t zero e g w = let z : [] ≡ p = some_inj e in rw (w, ← z) (hexadecimal-constant g)
hexadecimal-plain s p t (suc zero) e g w = let z : bytes "+" ≡ p = some_inj e in rw (w, ← z) (signed_hexadecimal {p = bytes "0x+"} (1, refl) g)
hexadecimal-plain s p t (suc (suc i)) e g w = absurd (none-some e)

hexadecimal-minus : (s p t : Text) (i : ℕ) → get plus i ≡ some p → Digits hexadecimal_digits t → s ≡ bytes "-0x" ++ (p ++ t) → Spelling s
hexadecimal-minus s p t zero e g w = let z : [] ≡ p = some_inj e in rw (w, ← z) (signed_hexadecimal {p = bytes "-0x"} (0, refl) g)
hexadecimal-minus s p t (suc zero) e g w = let z : bytes "+" ≡ p = some_inj e in rw (w, ← z) (signed_hexadecimal {p = bytes "-0x+"} (2, refl) g)
hexadecimal-minus s p t (suc (suc i)) e g w = absurd (none-some e)

-- what is read behind the minus
abbrev body : Text → Option ℤ
body r = let_some (strip_prefix (bytes "0x") r) else read_i64 r then λ h. let_some (read_u64 16 h) else none then λ n. some (as_i64 n)

body-plain : (s : Text) {z : ℤ} → body s ≡ some z → Spelling s
body-plain s {z} e =
    by-prefix (λ (o : Option ℤ). o ≡ some z → Spelling s) (bytes "0x") s _ _
    (λ e. let q = i64_read s e in decimal-plain s q.front q.rest q.known.0 q.known.1 q.spelled q.whole)
    (λ h w e. let q = u64-read h (bind-some e).1 in
    hexadecimal-plain s q.front q.rest q.known.0 q.known.1 q.spelled (w ∙ ap (bytes "0x" ++◌) q.whole))
    e

body-minus : (s r : Text) → s ≡ bytes "-" ++ r → {z : ℤ} → body r ≡ some z → Spelling s
body-minus s r m {z} e =
    by-prefix (λ (o : Option ℤ). o ≡ some z → Spelling s) (bytes "0x") r _ _
    (λ e. let q = i64_read r e in decimal-minus s q.front q.rest q.known.0 q.known.1 q.spelled (m ∙ ap (bytes "-" ++◌) q.whole))
    (λ h w e. let q = u64-read h (bind-some e).1 in
    hexadecimal-minus s q.front q.rest q.known.0 q.known.1 q.spelled (m ∙ ap (bytes "-" ++◌) (w ∙ ap (bytes "0x" ++◌) q.whole)))
    e

read_spelling : {s : Text} {z : ℤ} → parse_c_number s ≡ some z → Spelling s
unfolding parse_c_number
read_spelling {s} e = let q = bind-some e in
    by-prefix (λ r. body r ≡ some q.0 → Spelling s) (bytes "-") s s (λ r. r) (body-plain s) (λ r w. body-minus s r w) q.1

-- ---- no constants

digits-free : (p : ℕ → Bool) → map (λ (e : ℕ × ℕ). p e.0) digits ≡ map (λ (e : ℕ × ℕ). false) digits → {t : Text} → Digits digits t → any p t ≡ false
digits-free p f (one h) = or_false _ (at_each (λ (e : ℕ × ℕ). p e.0) (λ e. false) digits f h)
digits-free p f (more h g) = or_false _ (at_each (λ (e : ℕ × ℕ). p e.0) (λ e. false) digits f h) ∙ digits-free p f g

abbrev sign : ℕ → Bool
sign c = contains (bytes "+-") c

with_sign : {p : Text} → p ∈ words "+ - -+ -- -0x 0x+ -0x+" → (t : Text) (n : ℕ) → Constant (p ++ t) n → ⊥
unfolding opened
with_sign {p} m t n c =
    signed_is_none (p ++ t)
    (any_append sign p t ∙ or_true (any sign t) (at_each (any sign) (λ q. true) (words "+ - -+ -- -0x 0x+ -0x+") refl m)) n c

zero_then-eight : {t : Text} → Digits digits t → any eight_or_nine t ≡ true → (n : ℕ) → Constant (48 ∷ t) n → ⊥
unfolding opened
zero_then-eight g e n c = zero_then-eight_is_none c refl e (digits-free (contains (bytes "xX")) refl g) (digits-free (contains (bytes "uUlL")) refl g)

pub spellings : Spellings
unfolding opened
spellings =
    record {
      no_other_number = read_spelling;
      signed_is_none = with_sign;
      no_octal_is_none = zero_then-eight;
      minus_octal = (signed_is_none _ refl, refl);
      minus_hexadecimal = (signed_is_none _ refl, refl);
      minus_hexadecimal_plus = (signed_is_none _ refl, refl);
      plus_no_octal = (signed_is_none _ refl, refl);
      lowest = refl;
      lowest_behind_two = (signed_is_none _ refl, refl);
      zeros_no_octal = (zero_then-eight (more (0, refl) (more (1, refl) (one (9, refl)))) refl, refl);
    }
