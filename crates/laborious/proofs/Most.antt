-- "No accepted listing of n lines needs more": a round that begins with n lines makes at most `most_attempts n` attempts, whatever the
-- listing and the setting. A success needs a use on a later line, so a listing of one line has none, and one of two lines only at its
-- first, from which no step back is made. Assumes nothing.
use Prim.Native.Nat.{ℕ, zero, suc, pred, ◌+◌, ◌≤◌, ◌<◌, zero-le}
use native.Mathlib.Omega.{arith}
use native.Mathlib.Numerals.{add-one}
use mathlib.Core.Path.{◌≡◌, refl, ap}
use mathlib.Core.List.{List, [], ◌∷◌}
use mathlib.Core.Option.{some}
use lib.ListN.{length, get_or}
use Rattle.reference.specs.Text.{Text}
use Rattle.reference.specs.Listing.{Listing}
use Rattle.reference.specs.Rules.{Rules}
use Rattle.reference.specs.Life.{Labels}
use Rattle.reference.specs.Run.{Attempt, propagate_once, rounds_from, limit, run, attempts_in}
use Rattle.reference.specs.Demand.{Attempts, over, failed, succeeded}
use Rattle.reference.proofs.Cases.{by-if}
use Rattle.reference.proofs.Changes.{removed-length}
use Rattle.reference.specs.Join.{try_at, targets}
use Rattle.reference.proofs.Attempts.{attempt_removed, Joined, attempt_joined}
use Rattle.reference.proofs.Rounds.{round_taken}
use Rattle.laborious.specs.Most.{first_attempts, most_attempts}

-- ---- an attempt that succeeds has its use on a later line

joined-inside : (i n : ℕ) (js : List ℕ) → Joined i n js → suc i < n
joined-inside i n [] j = absurd (omega (arith, j.some_line))
joined-inside i n (k ∷ js) j = omega (arith, j.each.0.0, j.each.0.1)

attempt_inside : (rules : Rules) (lines : Listing) (i : ℕ) (labels : Labels) (addressed : List Text) {lines' : Listing}
    → try_at rules lines i labels addressed ≡ some lines' → suc i < length lines
attempt_inside rules lines i labels addressed e =
    joined-inside i (length lines) (targets rules lines i labels) (attempt_joined rules lines i labels addressed e)

-- ---- the bound

-- at the end of n lines
at_end : (n : ℕ) → n ≤ most_attempts n
unfolding most_attempts
at_end zero = zero-le
at_end (suc zero) = omega arith
at_end (suc (suc n)) = omega arith

-- a success at line i of m + 1, with k attempts after it
one_more : (m i k : ℕ) → suc i < suc m → k + pred i ≤ most_attempts m → suc k + i ≤ most_attempts (suc m)
unfolding most_attempts
one_more zero i k lt le = omega arith
one_more (suc zero) i k lt le = omega arith
one_more (suc (suc m)) i k lt le = omega arith

module _ {rules : Rules} {addressed : List Text} where
  attempts-most : {i : ℕ} {lines : Listing} {labels : Labels} {round : List Attempt} → Attempts rules addressed i lines labels round
      → i ≤ length lines
      → length round + i ≤ most_attempts (length lines)
  attempts-most {lines = lines} (over h) le = omega (arith, at_end (length lines))
  attempts-most (failed h e more) le = omega (arith, attempts-most more h)
  attempts-most (succeeded {i = i} {lines = lines} {lines' = lines'} {labels = labels} {more = round} h e more) le =
      let fewer : suc (length lines') ≡ length lines = removed-length (attempt_removed rules lines i labels addressed e) in
      let inside : suc i < length lines = attempt_inside rules lines i labels addressed e in
      let r = one_more (length lines') i (length round) (omega arith) (attempts-most more (omega arith)) in
      omega (arith, r, ap most_attempts fewer)

-- M-108, the bound: of every round
pub at_most : (rules : Rules) (lines : Listing) → length (propagate_once rules lines) ≤ most_attempts (length lines)
at_most rules lines = omega (arith, attempts-most (round_taken rules lines) zero-le)

-- the first round of every run is made
pub first_round : (rules : Rules) (lines : Listing) → first_attempts rules lines ≡ length (propagate_once rules lines)
unfolding run attempts_in limit rounds_from
first_round rules lines =
    by-if (λ (k : ℕ). length (get_or (rounds_from rules k lines) 0 []) ≡ length (propagate_once rules lines)) (λ e. rw add-one) (λ e. refl)
