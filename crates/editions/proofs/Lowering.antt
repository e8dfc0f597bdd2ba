-- A Number gone down: of the same value by the 2024 rules, a numeral of the 2018 edition, no longer, and nothing newer is left in it. What
-- is not newer is kept. Assumes nothing.
use Prim.Native.Nat.{ℕ, zero, suc, ◌^◌, ◌<◌, ◌≤◌}
use native.Mathlib.Omega.{arith}
use native.Mathlib.Nat.{le_refl}
use mathlib.Core.Path.{◌≡◌, refl, sym, ap, ◌∙◌}
use mathlib.Core.Bool.{Bool, true, false, false≢true}
use mathlib.Core.List.{[], ◌∷◌, ◌++◌}
use mathlib.Core.Option.{Option, none, some}
use lib.Dec.{eqb, ltb}
use lib.ListN.{length, drop}
use lib.IntN.{ℤ}
use borrow.Author.Tests.{eqb-true, ne_eqb, ltb-true}
use Rattle.reference.specs.Control.{not, ◌and◌, ◌or◌, when◌then◌else◌, let_some◌else◌then◌}
use Rattle.reference.specs.Lists.{is_some, any}
use Rattle.reference.specs.Text.{Text, bytes, starts_with, contains, strip_prefix}
use Rattle.reference.specs.Numbers.{base_of, constant_value, value_limit, read_constant, read_number}
use Rattle.reference.proofs.Opened.{opened}
use Rattle.reference.proofs.Cases.{by-if, neither, either, none-some, some_inj, true-false, if_some, bind-some}
use Rattle.reference.proofs.Numerals.{no_prefix, minus_1, plain_1, negated, base_0b, base_0B}
use Rattle.reference.proofs.Printed.{hexadecimal}
use Rattle.books.specs.Tables.{◌∈◌}
use Rattle.books.specs.Constants as old
use Rattle.books.specs.Constants2024 as new
use Rattle.books.proofs.Grammar2024.{decimal-base, octal-base, base-hexadecimal, begins, in_edition_1, sized-constant, sized-is_read}
use Rattle.books.proofs.Grammar2024.{read_is-sized, unsuffixed-plain, unsuffixed-free, numeral_is_read, read_is_numeral}
use Rattle.books.proofs.Editions.{still_decimal, still_octal, still_hexadecimal}
use Rattle.editions.specs.Numbers.{without_quotes, as_hexadecimal, down_constant, down_text, begins_binary, is_newer, has_no_older}
use Rattle.editions.specs.Lowering.{Ready}
use Rattle.editions.specs.Grammar.{Sized, small_decimal, small_octal, small_hexadecimal, Numeral, plain, minus}
use Rattle.editions.proofs.Quotes.{without_none, none_left, without_shorter, older-decimal, older-octal, older-hexadecimal}
use Rattle.editions.proofs.Hexadecimals.{no_quote_in, hexadecimal_2018, shorter, binary-base, binary_value}

-- ---- without a sign

-- whether a constant begins as a binary one does
abbrev binary-front : Text → Bool
binary-front s = starts_with s (bytes "0b") or starts_with s (bytes "0B")

-- by the base
other-base : (s : Text) (b : ℕ) → base_of s ≡ b → eqb b 16 ≡ false → eqb b 2 ≡ false → binary-front s ≡ false
unfolding base_of when◌then◌else◌
other-base s b e f g = by (starts_with s (bytes "0x") or starts_with s (bytes "0X")) (binary-front s) e
  where
    by : (x y : Bool) → (when x then 16 else when y then 2 else when starts_with s (bytes "0") then 8 else 10) ≡ b → y ≡ false
    by true y e = absurd (false≢true (sym f ∙ rw (← e) refl))
    by false true e = absurd (false≢true (sym g ∙ rw (← e) refl))
    by false false e = refl

hexadecimal-front : (p s : Text) → p ∈ old.hexadecimal_prefixes → binary-front (p ++ s) ≡ false
unfolding ◌and◌ ◌or◌
hexadecimal-front p s (zero, e) = rw (← (some_inj e)) refl
hexadecimal-front p s (suc zero, e) = rw (← (some_inj e)) refl
hexadecimal-front p s (suc (suc i), e) = absurd (none-some e)

-- a constant of the 2018 edition is one of the 2024 edition
still_sized : {s : Text} {z : ℤ} → Sized s z → new.Sized s z
still_sized (small_decimal r h) = new.small_decimal (still_decimal r) h
still_sized (small_octal r h) = new.small_octal (still_octal r) h
still_sized (small_hexadecimal m r h) = new.small_hexadecimal (still_hexadecimal m r) h

-- that begins as none that is binary
sized-front : {s : Text} {z : ℤ} → Sized s z → binary-front s ≡ false
sized-front (small_decimal {s} r h) = other-base s 10 (decimal-base (still_decimal r)) refl refl
sized-front (small_octal {s} r h) = other-base s 8 (octal-base (still_octal r)) refl refl
sized-front (small_hexadecimal m r h) = by (still_hexadecimal m r)
  where
    by : {s : Text} {n : ℕ} → new.Hexadecimal s n → binary-front s ≡ false
    by (new.prefix_digits {p} {s} m r) = hexadecimal-front p s m

-- what a constant that is read becomes
record Lowered (s t : Text) (z : ℤ) : Type 0 where
  older : Sized t z
  no_quote : contains t 39 ≡ false
  no_longer : length t ≤ length s

-- with any base but 2
unquoted-down : (s : Text) {z : ℤ} → read_constant s ≡ some z → (b : ℕ) → base_of s ≡ b → eqb b 2 ≡ false
    → down_constant s ≡ without_quotes s
unfolding down_constant when◌then◌else◌
unquoted-down s e b f g = rw (e, f, g) refl

-- with base 2
hexadecimal-down : (s : Text) {z : ℤ} {n : ℕ} → read_constant s ≡ some z → base_of s ≡ 2 → constant_value s ≡ some n
    → down_constant s ≡ bytes "0x" ++ hexadecimal n
unfolding down_constant as_hexadecimal when◌then◌else◌ let_some◌else◌then◌ hexadecimal
hexadecimal-down s e f g = rw (e, f, g) refl

base_of-hexadecimal : {s : Text} {n : ℕ} → new.Hexadecimal s n → base_of s ≡ 16
base_of-hexadecimal (new.prefix_digits {p} {s} m r) = (base-hexadecimal p s m).0

without : (s : Text) {z : ℤ} → down_constant s ≡ without_quotes s → Sized (without_quotes s) z → Lowered s (down_constant s) z
without s e r = rw e (record { older = r; no_quote = none_left s; no_longer = without_shorter s })

behind-prefix : (s : Text) → contains s 39 ≡ false → contains (bytes "0x" ++ s) 39 ≡ false
unfolding ◌or◌
behind-prefix s e = e

lowered : {s : Text} {z : ℤ} → new.Sized s z → Lowered s (down_constant s) z
lowered (new.small_decimal {s} r h) =
    without s (unquoted-down s (sized-is_read (new.small_decimal r h)) 10 (decimal-base r) refl) (small_decimal (older-decimal r) h)
lowered (new.small_octal {s} r h) =
    without s (unquoted-down s (sized-is_read (new.small_octal r h)) 8 (octal-base r) refl) (small_octal (older-octal r) h)
lowered (new.small_hexadecimal {s} r h) =
    let o = older-hexadecimal r in
    without s
    (unquoted-down s (sized-is_read (new.small_hexadecimal r h)) 16 (base_of-hexadecimal r) refl)
    (small_hexadecimal o.1 o.2 h)
lowered (new.small_binary {s} {n} r h) =
    rw (hexadecimal-down s (sized-is_read (new.small_binary r h)) (binary-base r) (binary_value r))
    (record {
      older = small_hexadecimal (0, refl) (hexadecimal_2018 n h) h;
      no_quote = behind-prefix (hexadecimal n) (no_quote_in n h);
      no_longer = shorter r;
    })

-- what is not read is kept
unread-constant : (s : Text) → read_constant s ≡ none → down_constant s ≡ s
unfolding down_constant when◌then◌else◌
unread-constant s e = rw e refl

-- and what is not newer
not_two : (s : Text) → binary-front s ≡ false → base_of s ≡ 2 → ⊥
unfolding base_of when◌then◌else◌
not_two s f e = by (starts_with s (bytes "0x") or starts_with s (bytes "0X")) (binary-front s) f (starts_with s (bytes "0")) e
  where
    by : (x y : Bool) → y ≡ false → (z : Bool) → ◌≡◌ {A = ℕ} (when x then 16 else when y then 2 else when z then 8 else 10) 2 → ⊥
    by true y g z e = omega arith
    by false true g z e = true-false refl g
    by false false g true e = omega arith
    by false false g false e = omega arith

kept-constant : (s : Text) → binary-front s ≡ false → contains s 39 ≡ false → down_constant s ≡ s
unfolding down_constant
kept-constant s f q =
    by-if (λ (t : Text). t ≡ s)
    (λ r. by-if (λ (t : Text). t ≡ s) (λ b. absurd (not_two s f (eqb-true (base_of s) 2 b))) (λ b. without_none s q))
    (λ u. refl)

-- ---- behind a minus, or without

-- a text's two forms
data Signed (s : Text) : Type 0 where
  unsigned : starts_with s (bytes "-") ≡ false → Signed s
  negative : (r : Text) → s ≡ bytes "-" ++ r → Signed s

signed : (s : Text) → Signed s
signed s = by (starts_with s (bytes "-")) refl
  where
    by : (b : Bool) → starts_with s (bytes "-") ≡ b → Signed s
    by true e = negative (drop 1 s) (begins s (bytes "-") e)
    by false e = unsigned e

pub down-plain : (s : Text) → starts_with s (bytes "-") ≡ false → down_text s ≡ down_constant s
unfolding down_text let_some◌else◌then◌
down-plain s e = rw (no_prefix (bytes "-") s e) refl

pub down-minus : (s : Text) → down_text (bytes "-" ++ s) ≡ bytes "-" ++ down_constant s
unfolding down_text let_some◌else◌then◌ strip_prefix when◌then◌else◌ ◌and◌
down-minus s = refl

newer_plain : (s : Text) → starts_with s (bytes "-") ≡ false → is_newer s ≡ (binary-front s or contains s 39)
unfolding is_newer begins_binary let_some◌else◌then◌
newer_plain s e = rw (no_prefix (bytes "-") s e) refl

newer_minus : (s : Text) → is_newer (bytes "-" ++ s) ≡ (binary-front s or contains s 39)
unfolding is_newer begins_binary let_some◌else◌then◌ strip_prefix when◌then◌else◌ ◌and◌ ◌or◌
newer_minus s = refl

-- ---- Numbers that are read

-- THE NEW TEXT IS A NUMERAL OF THE 2018 EDITION, OF THE SAME VALUE
record Gone (s t : Text) (z : ℤ) : Type 0 where
  older : Numeral t z
  none_newer : is_newer t ≡ false
  no_longer : length t ≤ length s

no_front : (s : Text) → binary-front s ≡ false → contains s 39 ≡ false → (binary-front s or contains s 39) ≡ false
unfolding ◌or◌
no_front s e f = rw e f

gone : {s : Text} {z : ℤ} → new.Numeral s z → Gone s (down_text s) z
gone (new.plain {s} r) =
    let l = lowered r in
    rw (down-plain s (unsuffixed-plain (sized-constant r).1))
    (record {
      older = plain l.older;
      none_newer =
          newer_plain (down_constant s) (unsuffixed-plain (sized-constant (still_sized l.older)).1)
          ∙ no_front (down_constant s) (sized-front l.older) l.no_quote;
      no_longer = l.no_longer;
    })
gone (new.minus {s} r) =
    let l = lowered r in
    rw (down-minus s)
    (record {
      older = minus l.older;
      none_newer = newer_minus (down_constant s) ∙ no_front (down_constant s) (sized-front l.older) l.no_quote;
      no_longer = omega (arith, l.no_longer);
    })

still_numeral : {s : Text} {z : ℤ} → Numeral s z → new.Numeral s z
still_numeral (plain r) = new.plain (still_sized r)
still_numeral (minus r) = new.minus (still_sized r)

-- ---- Numbers that are not

unnegated : (o : Option ℤ) → negated o ≡ none → o ≡ none
unfolding negated let_some◌else◌then◌
unnegated none e = refl
unnegated (some z) e = absurd (none-some (sym e))

unread : (s : Text) → read_number 1 s ≡ none → down_text s ≡ s
unread s e = by (signed s)
  where
    by : Signed s → down_text s ≡ s
    by (unsigned n) = down-plain s n ∙ unread-constant s (sym (plain_1 s n) ∙ sym (in_edition_1 s) ∙ e)
    by (negative r w) =
        let u : read_constant r ≡ none =
        unnegated (read_constant r) (sym (minus_1 r) ∙ sym (in_edition_1 (bytes "-" ++ r)) ∙ ap (read_number 1) (sym w) ∙ e) in
        ap down_text w ∙ down-minus r ∙ ap (bytes "-" ++◌) (unread-constant r u) ∙ sym w

-- ---- all Numbers

alone : (b : Bool) → (b and true) ≡ false → b ≡ false
unfolding ◌and◌
alone true e = e
alone false e = e

data Reading (s : Text) : Type 0 where
  is_read : {z : ℤ} → read_number 1 s ≡ some z → Reading s
  is_unread : read_number 1 s ≡ none → Reading s

reading : (s : Text) → Reading s
reading s = by (read_number 1 s) refl
  where
    by : (o : Option ℤ) → read_number 1 s ≡ o → Reading s
    by none e = is_unread e
    by (some z) e = is_read e

pub is_2018 : (s : Text) {z : ℤ} → read_number 1 s ≡ some z → Numeral (down_text s) z
is_2018 s e = (gone (read_is_numeral s e)).older

-- THE VALUE IS THE SAME BY THE 2024 RULES
pub same_value : (s : Text) → read_number 1 (down_text s) ≡ read_number 1 s
same_value s = by (reading s)
  where
    by : Reading s → read_number 1 (down_text s) ≡ read_number 1 s
    by (is_read e) = numeral_is_read (still_numeral (is_2018 s e)) ∙ sym e
    by (is_unread e) = ap (read_number 1) (unread s e)

-- NO TEXT GROWS
pub no_longer : (s : Text) → length (down_text s) ≤ length s
no_longer s = by (reading s)
  where
    by : Reading s → length (down_text s) ≤ length s
    by (is_read e) = (gone (read_is_numeral s e)).no_longer
    by (is_unread e) = rw (unread s e) (le_refl _)

-- WHAT IS NOT NEWER IS KEPT
pub kept : (s : Text) → is_newer s ≡ false → down_text s ≡ s
kept s e = by (signed s)
  where
    by : Signed s → down_text s ≡ s
    by (unsigned n) = let f = neither (sym (newer_plain s n) ∙ e) in down-plain s n ∙ kept-constant s f.0 f.1
    by (negative r w) =
        let f = neither (sym (newer_minus r) ∙ ap is_newer (sym w) ∙ e) in
        ap down_text w ∙ down-minus r ∙ ap (bytes "-" ++◌) (kept-constant r f.0 f.1) ∙ sym w

-- NOTHING NEWER IS LEFT
pub none_newer : (s : Text) → has_no_older s ≡ false → is_newer (down_text s) ≡ false
unfolding has_no_older not
none_newer s h = by (reading s)
  where
    by : Reading s → is_newer (down_text s) ≡ false
    by (is_read e) = (gone (read_is_numeral s e)).none_newer
    by (is_unread e) = ap is_newer (unread s e) ∙ alone (is_newer s) (rw e at h)

-- ---- what a tape asks of a text

-- question 7's bytes
abbrev unprintable : ℕ → Bool
unprintable b = ltb b 0x20 or ltb 0x7E b

numeral_printable : {s : Text} {z : ℤ} → new.Numeral s z → any unprintable s ≡ false
unfolding opened
numeral_printable (new.plain r) = unsuffixed-free unprintable refl refl refl refl refl refl refl refl refl (sized-constant r).1
numeral_printable (new.minus r) = unsuffixed-free unprintable refl refl refl refl refl refl refl refl refl (sized-constant r).1

pub still_printable : (s : Text) → any unprintable s ≡ false → any unprintable (down_text s) ≡ false
still_printable s h = by (reading s)
  where
    by : Reading s → any unprintable (down_text s) ≡ false
    by (is_read e) = numeral_printable (still_numeral (is_2018 s e))
    by (is_unread e) = rw (unread s e) h

nothing_read : read_number 1 [] ≡ none
unfolding opened
nothing_read = refl

read_text : (s : Text) {z : ℤ} → read_number 1 s ≡ some z → 1 ≤ length s
read_text [] e = absurd (none-some (sym nothing_read ∙ e))
read_text (c ∷ s) e = omega arith

pub still_some : (s : Text) → 1 ≤ length s → 1 ≤ length (down_text s)
still_some s h = by (reading s)
  where
    by : Reading s → 1 ≤ length (down_text s)
    by (is_read e) = read_text (down_text s) (same_value s ∙ e)
    by (is_unread e) = rw (unread s e) h

-- ---- what the code goes by

data Constant (s : Text) : Type 0 where
  a_number : {z : ℤ} → read_constant s ≡ some z → Constant s
  no_number : read_constant s ≡ none → Constant s

constant : (s : Text) → Constant s
constant s = by (read_constant s) refl
  where
    by : (o : Option ℤ) → read_constant s ≡ o → Constant s
    by none e = no_number e
    by (some z) e = a_number e

pub constant-no_longer : (s : Text) → length (down_constant s) ≤ length s
constant-no_longer s = by (constant s)
  where
    by : Constant s → length (down_constant s) ≤ length s
    by (a_number e) = (lowered (read_is-sized s e)).no_longer
    by (no_number e) = rw (unread-constant s e) (le_refl _)

-- one that does not begin as a binary constant loses its quotes, if it has any
pub plain_is : (s : Text) → Ready s → binary-front s ≡ false → down_constant s ≡ without_quotes s
unfolding not
plain_is s r f = by (constant s)
  where
    by : Constant s → down_constant s ≡ without_quotes s
    by (a_number e) = unquoted-down s e (base_of s) refl (ne_eqb (base_of s) 2 (not_two s f))
    by (no_number e) = unread-constant s e ∙ sym (without_none s (neither (alone _ (rw e at r))).1)

-- one that does is a number, and becomes hexadecimal
two : (s : Text) → binary-front s ≡ true → base_of s ≡ 2
two s f =
    either (base_of s ≡ 2) f
    (λ t. ap base_of (begins s (bytes "0b") t) ∙ base_0b (drop 2 s))
    (λ t. ap base_of (begins s (bytes "0B") t) ∙ base_0B (drop 2 s))

pub record Binary (s : Text) : Type 0 where
  pub value : ℕ
  pub base : base_of s ≡ 2
  pub comes_to : constant_value s ≡ some value
  pub small : value < 2 ^ 64
  pub lowers : down_constant s ≡ bytes "0x" ++ hexadecimal value

in_range : (s : Text) {z : ℤ} → read_constant s ≡ some z → (n : ℕ) × (constant_value s ≡ some n) × (n < value_limit (base_of s))
unfolding read_constant
in_range s e = let v = bind-some e in (v.0, v.1, ltb-true v.0 (value_limit (base_of s)) (if_some v.2).0)

in_64 : (s : Text) (n : ℕ) → base_of s ≡ 2 → n < value_limit (base_of s) → n < 2 ^ 64
unfolding value_limit when◌then◌else◌
in_64 s n b h = rw b at h

pub binary_is : (s : Text) → Ready s → binary-front s ≡ true → Binary s
unfolding not ◌or◌ ◌and◌
binary_is s r f = by (constant s)
  where
    by : Constant s → Binary s
    by (no_number e) = absurd (true-false refl (rw (f, e) at r))
    by (a_number e) =
        let v = in_range s e in
        let b = two s f in
        record {
          value = v.0;
          base = b;
          comes_to = v.1;
          small = in_64 s v.0 b v.2;
          lowers = hexadecimal-down s e b v.1;
        }

-- behind a minus, or without
pub plain_ready : (s : Text) → starts_with s (bytes "-") ≡ false → has_no_older s ≡ false → Ready s
unfolding has_no_older
plain_ready s n h = rw (newer_plain s n, in_edition_1 s, plain_1 s n) at h

is_some-negated : (o : Option ℤ) → is_some (negated o) ≡ is_some o
unfolding negated let_some◌else◌then◌
is_some-negated none = refl
is_some-negated (some z) = refl

pub minus_ready : (s : Text) → has_no_older (bytes "-" ++ s) ≡ false → Ready s
unfolding has_no_older
minus_ready s h = rw (newer_minus s, in_edition_1 (bytes "-" ++ s), minus_1 s, is_some-negated (read_constant s)) at h
