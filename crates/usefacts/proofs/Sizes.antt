-- Numbers of so many bits, as the code finds their sizes. Assumes nothing.
use Rattle.std.proofs.Common.{◌≡◌, ℕ, suc, ◌-◌, ◌^◌, Bool, true, false, ℤ, pos, negsuc, nat_abs, sym, refl, ap, ◌∙◌, arith}
use Rattle.std.proofs.Common.{w64, SFits, to_z, of_z, le-ltb, lt-ltb, le-leb, eq-eqb, ne_eqb, eqb, ltb, leb}
use lib.Signed.{lt_z}
use mir.ValLaws.{to_z-of_z}
use borrow.Author.Tests.{lt-leb}
use mathlib.Core.Bool.{false≢true}
use mathlib.Core.Logic.{by_cases}
use native.Mathlib.Decide.{dec_lt, ℕ_discrete}
use Rattle.std.specs.Prelude as std
use Rattle.std.specs.Prelude.{Some, None}
use Rattle.reference.specs.Control.{not, ◌and◌, ◌or◌, let_some◌else◌then◌}
use Rattle.reference.specs.Text.{Text, bytes, starts_with}
use Rattle.reference.specs.Options.{option_of}
use Rattle.reference.specs.Numbers.{read_number}
use Rattle.reference.specs.Listing.{is, Number}
use Rattle.lines.specs.Words.{kind_of, text_of, token_of}
use Rattle.cautions.specs.Values.{fits, is_small, is_tame}
use Rattle.usefacts.specs.Numbers.{is_below_zero, is_same, is_short, is_tame_after, is_tame_text}

-- ---- read by both

module _ (s : Text) where
  pub second_none : (a : ℤ) {q : std.Option ℤ} → option_of q ≡ read_number 1 s → q ≡ None → false ≡ is_tame_after s a
  unfolding is_tame_after let_some◌else◌then◌
  second_none a d n = rw (← d, n) refl

  pub second_some : (a : ℤ) {q : std.Option ℤ} {b : ℤ} {m x : Bool} → option_of q ≡ read_number 1 s → q ≡ Some b → m ≡ starts_with s (bytes "-") → x ≡ is_small m a b
      → x ≡ is_tame_after s a
  unfolding is_tame_after let_some◌else◌then◌
  second_some a d eb em ex = rw (← d, eb, ← em) ex

  pub first_none : {r : std.Option ℤ} → option_of r ≡ read_number 0 s → r ≡ None → false ≡ is_tame_text s
  unfolding is_tame_text let_some◌else◌then◌
  first_none e n = rw (← e, n) refl

  pub first_some : {r : std.Option ℤ} {a : ℤ} {x : Bool} → option_of r ≡ read_number 0 s → r ≡ Some a → x ≡ is_tame_after s a → x ≡ is_tame_text s
  unfolding is_tame_text let_some◌else◌then◌
  first_some e ea ex = rw (← e, ea) ex

pub ruleset seconds = (second_none, second_some)

pub ruleset firsts = (first_none, first_some)

module _ (tape area : Text) (w : ℕ) {k : ℕ} (ek : k ≡ kind_of w) where
  pub tame_other : (k ≡ Number → ⊥) → true ≡ is_tame (token_of tape area w)
  unfolding is_tame is not ◌or◌
  tame_other h = rw (← ek, ne_eqb k Number h) refl

  pub tame_number : k ≡ Number → {s : Text} {x : Bool} → s ≡ text_of tape area w → x ≡ is_tame_text s → x ≡ is_tame (token_of tape area w)
  unfolding is_tame is_tame_text is_tame_after is not ◌or◌
  tame_number h es ex = rw (← ek, h, ← es) ex

pub ruleset tames = (tame_other, tame_number)

-- ---- signs and sizes

suc_eqb : (p q : ℕ) → eqb p q ≡ eqb (suc p) (suc q)
suc_eqb p q = by_cases (ℕ_discrete p q) (λ h. eq-eqb p q h ∙ sym (eq-eqb (suc p) (suc q) (ap suc h))) (λ h. ne_eqb p q h ∙ sym (ne_eqb (suc p) (suc q) (λ k. h (omega arith))))

short : (q : ℕ) → ltb q (2 ^ 31) ≡ leb (suc q) 2147483648
short q = by_cases (dec_lt q 2147483648) (λ h. lt-ltb q 2147483648 h ∙ sym (le-leb (suc q) 2147483648 (omega arith)))
    (λ h. le-ltb q 2147483648 (omega (arith, h)) ∙ sym (lt-leb (suc q) 2147483648 (omega (arith, h))))

module _ (z : ℤ) (f : SFits w64 z) where
  pub sign_is : lt_z (to_z w64 (of_z w64 z)) (pos 0) ≡ is_below_zero z
  sign_is = rw (to_z-of_z w64 z f) (by z)
    where
      by : (z : ℤ) → lt_z z (pos 0) ≡ is_below_zero z
      by (pos n) = le-ltb n 0 (omega arith)
      by (negsuc n) = refl

  pub sign_below : lt_z (to_z w64 (of_z w64 z)) (pos 0) ≡ true → true ≡ is_below_zero z
  sign_below h = sym h ∙ sign_is

  pub sign_not : lt_z (to_z w64 (of_z w64 z)) (pos 0) ≡ false → false ≡ is_below_zero z
  sign_not h = sym h ∙ sign_is

  pub size_is : {b : ℕ} → b ≡ nat_abs (to_z w64 (of_z w64 z)) → b ≡ nat_abs z
  size_is h = rw (to_z-of_z w64 z f) at h

pub ruleset signs = (sign_is, sign_below, sign_not)

pub ruleset sizes = (size_is)

module _ (width : ℕ) (z : ℤ) {x : Bool} (e : x ≡ is_below_zero z) where
  pub fits_below : x ≡ true → false ≡ fits width z
  unfolding fits
  fits_below t = by z (sym t ∙ e)
    where
      by : (z : ℤ) → true ≡ is_below_zero z → false ≡ fits width z
      by (pos n) h = absurd (false≢true (sym h))
      by (negsuc n) h = refl

  pub fits_size : x ≡ false → {n p k : ℕ} → n ≡ nat_abs z → k ≡ width - 1 → p ≡ 2 ^ k → ltb n p ≡ fits width z
  unfolding fits
  fits_size t {n} {p} {k} en ek ep = by z (sym t ∙ e) en
    where
      by : (z : ℤ) → false ≡ is_below_zero z → n ≡ nat_abs z → ltb n p ≡ fits width z
      by (pos m) h i = rw (i, ep, ek) refl
      by (negsuc m) h i = absurd (false≢true h)

pub ruleset fitting = (fits_below, fits_size)

module _ (a b : ℤ) {x y : Bool} (ex : x ≡ is_below_zero a) (ey : y ≡ is_below_zero b) where
  pub same_apart : (x ≡ y → ⊥) → false ≡ is_same a b
  same_apart h = by a b ex ey
    where
      by : (a b : ℤ) → x ≡ is_below_zero a → y ≡ is_below_zero b → false ≡ is_same a b
      by (pos p) (pos q) i j = absurd (h (i ∙ sym j))
      by (negsuc p) (negsuc q) i j = absurd (h (i ∙ sym j))
      by (pos p) (negsuc q) i j = refl
      by (negsuc p) (pos q) i j = refl

  pub same_size : x ≡ y → {m n : ℕ} → m ≡ nat_abs a → n ≡ nat_abs b → eqb m n ≡ is_same a b
  same_size h {m} {n} em en = by a b ex ey em en
    where
      by : (a b : ℤ) → x ≡ is_below_zero a → y ≡ is_below_zero b → m ≡ nat_abs a → n ≡ nat_abs b → eqb m n ≡ is_same a b
      by (pos p) (pos q) i j k l = rw (k, l) refl
      by (negsuc p) (negsuc q) i j k l = rw (k, l) (sym (suc_eqb p q))
      by (pos p) (negsuc q) i j k l = absurd (false≢true (sym i ∙ h ∙ j))
      by (negsuc p) (pos q) i j k l = absurd (false≢true (sym j ∙ sym h ∙ i))

pub ruleset sames = (same_apart, same_size)

module _ (minus : Bool) (b : ℤ) {y : Bool} (ey : y ≡ is_below_zero b) {n : ℕ} (en : n ≡ nat_abs b) where
  pub short_below : y ≡ true → minus ≡ true → leb n 2147483648 ≡ is_short minus b
  unfolding is_short ◌and◌
  short_below t m = by b (sym t ∙ ey) en
    where
      kept : (c : Bool) → c ≡ (c and true)
      kept true = refl
      kept false = refl

      by : (b : ℤ) → true ≡ is_below_zero b → n ≡ nat_abs b → leb n 2147483648 ≡ is_short minus b
      by (pos q) i j = absurd (false≢true (sym i))
      by (negsuc q) i j = rw (j, m) (sym (short q) ∙ kept (ltb q (2 ^ 31)))

  pub short_plus : y ≡ false → ltb n 2147483648 ≡ is_short minus b
  unfolding is_short
  short_plus t = by b (sym t ∙ ey) en
    where
      by : (b : ℤ) → false ≡ is_below_zero b → n ≡ nat_abs b → ltb n 2147483648 ≡ is_short minus b
      by (pos q) i j = rw j refl
      by (negsuc q) i j = absurd (false≢true i)

pub short_unwritten : (minus : Bool) (b : ℤ) {y : Bool} → y ≡ is_below_zero b → y ≡ true → minus ≡ false → false ≡ is_short minus b
unfolding is_short ◌and◌
short_unwritten minus b {y} ey t m = by b (sym t ∙ ey)
  where
    last : (c : Bool) → false ≡ (c and false)
    last true = refl
    last false = refl

    by : (b : ℤ) → true ≡ is_below_zero b → false ≡ is_short minus b
    by (pos q) i = absurd (false≢true (sym i))
    by (negsuc q) i = rw m (last (ltb q (2 ^ 31)))

pub ruleset shorts = (short_below, short_plus, short_unwritten)

small_is : (minus : Bool) (a b : ℤ) → is_small minus a b ≡ (is_same a b and is_short minus b)
unfolding is_small is_short ◌and◌
small_is minus (pos p) (pos q) = refl
small_is minus (negsuc p) (negsuc q) = refl
small_is minus (pos p) (negsuc q) = refl
small_is minus (negsuc p) (pos q) = refl

module _ (minus : Bool) (a b : ℤ) {x : Bool} (ex : x ≡ is_same a b) where
  pub small_other : x ≡ false → false ≡ is_small minus a b
  unfolding ◌and◌
  small_other f = sym (small_is minus a b ∙ rw (← ex, f) refl)

  pub small_same : x ≡ true → {y : Bool} → y ≡ is_short minus b → y ≡ is_small minus a b
  unfolding ◌and◌
  small_same t ey = sym (small_is minus a b ∙ rw (← ex, t) (sym ey))

pub ruleset smalls = (small_other, small_same)
