-- What stands before a separator and behind it: its place, as parts, and how long; a text's first line. Assumes nothing.
use Prim.Native.Nat.{ℕ, zero, suc, ◌+◌, ◌-◌, ◌≤◌, ◌<◌, min}
use native.Mathlib.Omega.{arith}
use native.Mathlib.Decide.{ℕ_discrete}
use native.Mathlib.Numerals.{add-one}
use mathlib.Core.Bool.{Bool, true, false, cond, not as flip}
use lib.Dec.{eqb}
use Rattle.std.specs.List.{prefix_len}
use Rattle.std.proofs.Common.{slice_index_or}
use mathlib.Core.Path.{◌≡◌, refl, sym, ap}
use mathlib.Core.Logic.{by_cases}
use mathlib.Core.List.{[], ◌∷◌, ◌++◌}
use lib.ListN.{length, take, drop, get_or, length-append, length-take, length-drop}
use borrow.Author.Tests.{eq-eqb, ne_eqb}
use Rattle.reference.specs.Control.{when◌then◌else◌}
use Rattle.reference.specs.Text.{Text}
use Rattle.test_leaves.specs.Fields.{before, behind, with_byte, lines}

module _ (b x : ℕ) (xs : Text) where
  before_hit : x ≡ b → before (x ∷ xs) b ≡ []
  unfolding before when◌then◌else◌
  before_hit e = rw (eq-eqb x b e)

  before_miss : (x ≡ b → ⊥) → before (x ∷ xs) b ≡ x ∷ before xs b
  unfolding before when◌then◌else◌
  before_miss n = rw (ne_eqb x b n)

  behind_hit : x ≡ b → behind (x ∷ xs) b ≡ xs
  unfolding behind when◌then◌else◌
  behind_hit e = rw (eq-eqb x b e)

  behind_miss : (x ≡ b → ⊥) → behind (x ∷ xs) b ≡ behind xs b
  unfolding behind when◌then◌else◌
  behind_miss n = rw (ne_eqb x b n)

-- ---- the place of the first b

pub place_is : (s : Text) (b : ℕ) → length (before s b) ≡ prefix_len (λ x. flip (eqb x b)) s
unfolding before when◌then◌else◌
place_is [] b = refl
place_is (x ∷ xs) b = step (eqb x b) (place_is xs b)
  where
    step : (t : Bool) → length (before xs b) ≡ prefix_len (λ x. flip (eqb x b)) xs
        → length (when t then [] else x ∷ before xs b) ≡ cond (flip t) (1 + prefix_len (λ x. flip (eqb x b)) xs) 0
    step true e = refl
    step false e = omega (arith, e)

-- ---- the parts

module _ (b : ℕ) where
  pub take-before : (s : Text) → take (length (before s b)) s ≡ before s b
  unfolding before
  take-before [] = refl
  take-before (x ∷ xs) =
      by_cases (ℕ_discrete x b) (λ e. rw (before_hit b x xs e)) (λ n. rw (before_miss b x xs n) (ap (λ (t : Text). x ∷ t) (take-before xs)))

  drop_past : (s : Text) → drop (suc (length (before s b))) s ≡ behind s b
  unfolding behind
  drop_past [] = refl
  drop_past (x ∷ xs) =
      by_cases (ℕ_discrete x b) (λ e. rw (before_hit b x xs e, behind_hit b x xs e))
      (λ n. rw (before_miss b x xs n, behind_miss b x xs n) (drop_past xs))

  pub drop-before : (s : Text) → drop (length (before s b) + 1) s ≡ behind s b
  drop-before s = rw add-one (drop_past s)

  -- ---- how long they are

  pub before-length : (s : Text) → length (before s b) ≤ length s
  before-length s = omega (arith, ap length (take-before s), length-take (length (before s b)) s)

  pub behind-length : (s : Text) → length (behind s b) ≤ length s - 1
  behind-length s = omega (arith, ap length (drop_past s), length-drop (suc (length (before s b))) s)

-- ---- lines

pub next_line : (s : Text) → 0 < length s → lines s ≡ before s 10 ∷ lines (behind s 10)
unfolding lines before behind when◌then◌else◌
next_line [] h = absurd (omega arith)
next_line (x ∷ []) h = by_cases (ℕ_discrete x 10) (λ e. rw (eq-eqb x 10 e)) (λ n. rw (ne_eqb x 10 n))
next_line (x ∷ y ∷ ys) h =
    by_cases (ℕ_discrete x 10) (λ e. rw (eq-eqb x 10 e)) (λ n. rw (ne_eqb x 10 n) (ap (with_byte x) (next_line (y ∷ ys) (omega arith))))

-- ---- a piece that `split_inclusive` gives of s: its bytes up to the first line feed, before which i bytes stand

pub piece-length : (s x t : Text) → s ≡ x ++ t → length x ≤ length s
piece-length s x t e = omega (arith, ap length e, length-append x t)

-- it has the first line, and what is left lies behind that
pub piece : (s x t : Text) (i : ℕ) → s ≡ x ++ t → length x ≡ min (i + 1) (length s) → ((k d : ℕ) → 0 ≤ k → k < i → eqb (slice_index_or s k d) 10 ≡ false)
    → (i < length s → (d : ℕ) → eqb (slice_index_or s i d) 10 ≡ true) → (before x 10 ≡ before s 10) × (t ≡ behind s 10)
unfolding before behind when◌then◌else◌
piece [] [] [] i e n all at = (refl, refl)
piece [] [] (b ∷ t) i e n all at = absurd (omega (arith, ap length e))
piece [] (b ∷ x) t i e n all at = absurd (omega (arith, ap length e))
piece (y ∷ s) [] t i e n all at = absurd (omega (arith, n))
piece (y ∷ s) (b ∷ []) t zero e n all at =
    let p : y ≡ b = ap (λ (l : Text). get_or l 0 0) e in
    let q : s ≡ t = ap (λ (l : Text). drop 1 l) e in
    let h : eqb y 10 ≡ true = at (omega arith) 0 in
    rw (← p, h) (refl, sym q)
piece (y ∷ s) (b ∷ c ∷ x) t zero e n all at = absurd (omega (arith, n))
piece (y ∷ s) (b ∷ x) t (suc i) e n all at =
    let p : y ≡ b = ap (λ (l : Text). get_or l 0 0) e in
    let q : s ≡ x ++ t = ap (λ (l : Text). drop 1 l) e in
    let h : eqb y 10 ≡ false = all 0 0 (omega arith) (omega arith) in
    let r = piece s x t i q (omega (arith, n)) (λ k d u v. all (suc k) d (omega arith) (omega (arith, v))) (λ u d. at (omega (arith, u)) d) in
    rw (← p, h) (ap (λ (l : Text). y ∷ l) r.0, r.1)
