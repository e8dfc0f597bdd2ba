-- Families that are equal: two rows by their numbers, a row and a text that is no row's family never. Assumes nothing.
use Prim.Native.Nat.{ℕ, ◌<◌}
use native.Mathlib.Omega.{arith}
use mathlib.Core.Path.{◌≡◌, refl, sym, ap, ◌∙◌}
use mathlib.Core.Bool.{Bool, true, false, false≢true}
use mathlib.Core.List.{[], ◌++◌}
use native.Mathlib.Decide.{dec_lt}
use mathlib.Core.Logic.{by_cases}
use lib.Dec.{eqb}
use lib.ListN.{get_or-append, get_or-eq_default}
use borrow.Author.Tests.{ne_eqb}
use Rattle.reference.specs.Control.{◌and◌}
use Rattle.reference.specs.Text.{Text, ◌≟◌}
use Rattle.names.specs.Families.{ROWS, row_name, is_row}
use Rattle.names.specs.Volatile.{NEW, name_numbered}
use Rattle.names.proofs.Searches.{all-below, below_at, none_at}
use Rattle.names.proofs.Texts.{same_swap}

-- ---- by number: one test of all pairs

agree : Bool → Bool → Bool
agree true b = b
agree false true = false
agree false false = true

agreed : (a b : Bool) → agree a b ≡ true → a ≡ b
unfolding agree
agreed true b e = sym e
agreed false true e = absurd (false≢true e)
agreed false false e = refl

pairs : ℕ → Bool
pairs a = all-below 12 (λ b. agree (name_numbered a ≟ name_numbered b) (eqb a b))

pairs_tested : all-below 12 pairs ≡ true
unfolding all-below pairs agree ◌and◌
pairs_tested = refl

unnamed : ℕ → Bool
unnamed a = agree (name_numbered a ≟ []) false

unnamed_tested : all-below 12 unnamed ≡ true
unfolding all-below unnamed agree ◌and◌
unnamed_tested = refl

pub has-name : (a : ℕ) → a < 12 → (name_numbered a ≟ []) ≡ false
unfolding unnamed
has-name a h = agreed (name_numbered a ≟ []) false (below_at 12 unnamed a unnamed_tested h)

pub same_name : (a b : ℕ) → a < 12 → (name_numbered a ≟ name_numbered b) ≡ eqb a b
unfolding pairs
same_name a b h =
    by_cases (dec_lt b 12)
    (λ k. agreed (name_numbered a ≟ name_numbered b) (eqb a b) (below_at 12 (λ b. agree (name_numbered a ≟ name_numbered b) (eqb a b)) b (below_at 12 pairs a pairs_tested h) k))
    (λ k.
    let e : name_numbered b ≡ [] = get_or-eq_default (ROWS ++ NEW) [] {n = b} (omega (arith, k)) in
    ap (name_numbered a ≟◌) e ∙ has-name a h ∙ sym (ne_eqb a b (λ f. omega (arith, k))))

-- ---- rows

pub row_number : (r : ℕ) → r < 8 → name_numbered r ≡ row_name r
row_number r h = get_or-append ROWS NEW [] r h

pub same_row : (a b : ℕ) → a < 8 → b < 8 → (row_name a ≟ row_name b) ≡ eqb a b
same_row a b h k = rw (← row_number a h, ← row_number b k) (same_name a b (omega arith))

pub row-not_text : (r : ℕ) (t : Text) → r < 8 → is_row t ≡ false → (row_name r ≟ t) ≡ false
unfolding is_row
row-not_text r t h e = none_at (◌≟ t) ROWS [] r e h

pub text_not_row : (r : ℕ) (t : Text) → r < 8 → is_row t ≡ false → (t ≟ row_name r) ≡ false
text_not_row r t h e = same_swap (row_name r) t (row-not_text r t h e)
