-- The digits that crate io spells are those of the definitions, and so are the letters of the kinds. Assumes nothing.
use Prim.Native.Nat.{ℕ, zero, suc, ◌+◌, ◌-◌, ◌^◌, ◌≤◌, ◌<◌}
use native.Mathlib.Omega.{arith}
use native.Mathlib.Decide.{dec_le, dec_lt}
use native.Mathlib.Nat.{pow-le-pow_right}
use mathlib.Core.Path.{◌≡◌, refl, sym, ap, ◌∙◌}
use mathlib.Core.Logic.{by_cases}
use mathlib.Core.List.{[], ◌∷◌}
use mathlib.Core.Option.{Option, none, some}
use lib.Dec.{eqb}
use borrow.Author.Tests.{lt-ltb, le-ltb, ne_eqb}
use Rattle.reference.specs.Control.{when◌then◌else◌, let_some◌else◌then◌}
use Rattle.reference.specs.Lists.{position}
use Rattle.laws.proofs.Scans.{if-true, if-false}
use Rattle.io.specs.Digits.{last_digits, IsDigitCount}
use Rattle.listing_text.specs.Room.{Page, Adds, puts}
use Rattle.listing_text.specs.Forms.{hexadecimal, enough, short_hex, letters, blanks, line_end}
use Rattle.listing_text.proofs.Pages.{puts_two}

-- ---- hexadecimal digits

-- 16 digits hold every number of 64 bits
few-digits : (least n : ℕ) {k : ℕ} → least ≤ 16 → n < 2 ^ 64 → IsDigitCount 16 least n k → k ≤ 16
few-digits least n {k} l h f =
    by_cases (dec_le k 16) (λ le. le)
    (λ le. absurd (omega (arith, f.2 (omega arith), pow-le-pow_right {n = 16} (omega arith) {i = 16} {j = k - 1} (omega arith))))

enough_is : (more j n k : ℕ) → j ≤ k → k ≤ j + more → n < 16 ^ k → (j < k → 16 ^ (k - 1) ≤ n) → enough more j n ≡ k
unfolding enough
enough_is zero j n k a b l g = omega arith
enough_is (suc more) j n k a b l g =
    by_cases (dec_lt n (16 ^ j))
    (λ s.
    if-true _ _ (lt-ltb n (16 ^ j) s)
    ∙ by_cases (dec_lt j k)
    (λ t. absurd (omega (arith, g t, pow-le-pow_right {n = 16} (omega arith) {i = j} {j = k - 1} (omega arith))))
    (λ t. omega arith))
    (λ s.
    let t : j < k =
    by_cases (dec_lt j k) (λ t. t)
    (λ t.
    let e : j ≡ k = omega arith in
    absurd (s (rw e l))) in
    if-false _ _ (le-ltb n (16 ^ j) (omega arith)) ∙ enough_is more (suc j) n k (omega arith) (omega arith) l (λ z. g (omega arith)))

-- what crate io spells, of so many digits at least
pub hex-spelt : (n least : ℕ) {k : ℕ} → least ≤ 16 → n < 2 ^ 64 → IsDigitCount 16 least n k → last_digits 16 k n ≡ hexadecimal (enough (16 - least) least n) n
unfolding hexadecimal
hex-spelt n least {k} l h f =
    let e : enough (16 - least) least n ≡ k = enough_is (16 - least) least n k f.0 (omega (arith, few-digits least n l h f)) f.1 f.2 in
    ap (λ (j : ℕ). last_digits 16 j n) (sym e)

pub sixteen : (n : ℕ) → hexadecimal (enough 0 16 n) n ≡ hexadecimal 16 n
unfolding enough
sixteen n = refl

pub short : (n : ℕ) → hexadecimal (enough 8 8 n) n ≡ short_hex n
unfolding short_hex
short n = refl

-- ---- blanks and line ends

pub blanks-next : (g : Page) {g₁ : Page} (left : ℕ) → 0 < left → Adds g (32 ∷ 32 ∷ []) g₁ → puts g₁ (blanks (left - 1)) ≡ puts g (blanks left)
unfolding blanks
blanks-next g zero h a = absurd (omega arith)
blanks-next g (suc left) h a =
    let m : suc left - 1 ≡ left = omega arith in
    rw m (puts_two g (blanks left) a)

pub blanks-last : (g : Page) (left : ℕ) → left ≡ 0 → puts g (blanks left) ≡ g
unfolding blanks puts
blanks-last g left e = rw e

pub no_line_end : (at : ℕ) → at ≡ 0 → [] ≡ line_end at
unfolding line_end when◌then◌else◌
no_line_end at e = rw e

pub some_line_end : (at : ℕ) → (at ≡ 0 → ⊥) → 10 ∷ [] ≡ line_end at
unfolding line_end when◌then◌else◌
some_line_end at n = rw (ne_eqb at 0 n)

-- ---- letters

-- a token's first byte on the tape, by its letter
abbrev pub tag : ℕ → Option ℕ
tag l = let_some (position (eqb l) letters) else none then λ kind. some (16 + kind)

module _ (l : ℕ) where
  pub tag_some : {kind : ℕ} → some kind ≡ position (eqb l) letters → some (16 + kind) ≡ tag l
  unfolding let_some◌else◌then◌
  tag_some e = ap (λ (o : Option ℕ). let_some o else none then λ kind. some (16 + kind)) e

  pub tag_none : none ≡ position (eqb l) letters → none ≡ tag l
  unfolding let_some◌else◌then◌
  tag_none e = ap (λ (o : Option ℕ). let_some o else none then λ kind. some (16 + kind)) e
