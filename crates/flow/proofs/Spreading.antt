-- What the table of `reached` says in the words of the definitions: the places that are set are the numbers of the lines reached; and
-- which of them are not looked into, or read an older value. Assumes nothing.
use Prim.Native.Nat.{ℕ, zero, suc, ◌+◌, ◌<◌}
use native.Mathlib.Omega.{arith}
use native.Mathlib.Numerals.{add-one}
use mathlib.Core.Path.{◌≡◌, refl, ◌∙◌}
use mathlib.Core.Bool.{Bool, true, false}
use mathlib.Core.List.{List, [], ◌∷◌}
use lib.Dec.{eqb}
use lib.ListN.{length, get_or, drop}
use borrow.Author.Tests.{eq-eqb, ne_eqb}
use Rattle.std.specs.Prelude.{filter}
use Rattle.std.proofs.Common.{eqb-true}
use Rattle.std.proofs.lemmas.List.{drop_more}
use Rattle.reference.specs.Control.{not, ◌and◌, ◌or◌, when◌then◌else◌, let_some◌else◌then◌}
use Rattle.reference.specs.Lists.{any, is_empty}
use Rattle.reference.specs.Rules.{Rules}
use Rattle.reference.specs.Text.{Text}
use Rattle.reference.specs.Listing.{Listing}
use Rattle.laws.proofs.Scans.{by_test, and_last}
use Rattle.cautions.specs.Forms.{ways, is_dark, reached, reached_from}
use Rattle.cautions.specs.Joins.{dark_in, stale_in}
use Rattle.flow.specs.Reaching.{reached_table, is_stale}
use Rattle.flow.proofs.Walking.{ways_at}

-- ---- the lines reached

pub reached_is : (ls : Listing) (i : ℕ) (fam : Text) (vs : List Text) → i < length ls
    → reached ls (ways ls) i fam vs ≡ reached_from 0 (reached_table ls i fam vs)
unfolding reached
reached_is ls i fam vs h = rw (ways_at ls i h) refl

-- a scan over the table
pub reached_more : (s : List Bool) (k : ℕ) → k < length s
    → reached_from k (drop k s) ≡ (when get_or s k false then k ∷ reached_from (k + 1) (drop (k + 1) s) else reached_from (k + 1) (drop (k + 1) s))
unfolding reached_from
reached_more s k h = rw (drop_more s k false h, add-one k) refl

not_below : (n m : ℕ) (s : List Bool) → n < m → any (eqb n) (reached_from m s) ≡ false
unfolding reached_from ◌or◌ when◌then◌else◌
not_below n m [] h = refl
not_below n m (true ∷ bs) h = rw (ne_eqb n m (λ e. omega (arith, e)), not_below n (suc m) bs (omega arith)) refl
not_below n m (false ∷ bs) h = not_below n (suc m) bs (omega arith)

place_of : (m : ℕ) (s : List Bool) (k n : ℕ) → n ≡ m + k → any (eqb n) (reached_from m s) ≡ get_or s k false
unfolding reached_from ◌or◌ when◌then◌else◌
place_of m [] k n e = refl
place_of m (true ∷ bs) zero n e = rw (eq-eqb n m (omega (arith, e))) refl
place_of m (false ∷ bs) zero n e = not_below n (suc m) bs (omega (arith, e))
place_of m (true ∷ bs) (suc k) n e = rw (ne_eqb n m (λ i. omega (arith, e, i))) (place_of (suc m) bs k n (omega (arith, e)))
place_of m (false ∷ bs) (suc k) n e = place_of (suc m) bs k n (omega (arith, e))

-- line k is reached where its place is set
pub reached_at : (s : List Bool) (k : ℕ) → any (eqb k) (reached_from 0 s) ≡ get_or s k false
reached_at s k = place_of 0 s k k (omega arith)

-- ---- filters of lines

pub filter_at : (p : ℕ → Bool) (xs : List ℕ) (k : ℕ) → any (eqb k) (filter p xs) ≡ (any (eqb k) xs and p k)
unfolding ◌or◌ ◌and◌ when◌then◌else◌
filter_at p [] k = refl
filter_at p (x ∷ xs) k =
    let more = filter_at p xs k in
    by_test (eqb k x) (λ e. here (eqb-true k x e) (p k) refl more) (λ e. there e (p x) more)
  where
    here : k ≡ x → (b : Bool) → p k ≡ b → any (eqb k) (filter p xs) ≡ (any (eqb k) xs and p k)
        → any (eqb k) (filter p (x ∷ xs)) ≡ ((eqb k x or any (eqb k) xs) and p k)
    here q true f more = rw (← q, f, eq-eqb k k refl) refl
    here q false f more = rw (← q, f, eq-eqb k k refl) (more ∙ rw f (and_last (any (eqb k) xs)))

    there : eqb k x ≡ false → (b : Bool) → any (eqb k) (filter p xs) ≡ (any (eqb k) xs and p k)
        → any (eqb k) (when b then x ∷ filter p xs else filter p xs) ≡ ((eqb k x or any (eqb k) xs) and p k)
    there f true more = rw f more
    there f false more = rw f more

pub some_filter : (p : ℕ → Bool) (xs : List ℕ) → not (is_empty (filter p xs)) ≡ any p xs
unfolding ◌or◌ not when◌then◌else◌
some_filter p [] = refl
some_filter p (x ∷ xs) = go (p x) (some_filter p xs)
  where
    go : (b : Bool) → not (is_empty (filter p xs)) ≡ any p xs → not (is_empty (when b then x ∷ filter p xs else filter p xs)) ≡ (b or any p xs)
    go true more = refl
    go false more = more

-- ---- the others that a value reaches

module _ (rules : Rules) (ls : Listing) (i : ℕ) (fam : Text) (far others : List ℕ) (k : ℕ) where
  pub dark_at : any (eqb k) (dark_in rules ls (ways ls) i fam far others) ≡ (any (eqb k) others and is_dark ls (ways ls) k)
  unfolding dark_in
  dark_at = filter_at (is_dark ls (ways ls)) others k

  pub stale_at : any (eqb k) (stale_in rules ls (ways ls) i fam far others) ≡ (any (eqb k) others and is_stale ls fam k)
  unfolding stale_in is_stale
  stale_at = filter_at (is_stale ls fam) others k
