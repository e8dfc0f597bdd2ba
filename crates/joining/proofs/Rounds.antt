-- One turn of a round, and one of the cuts, without fuel: so a loop's invariant is that what is read off what is left, with what was done, is what
-- is read off the whole. Assumes nothing.
use Prim.Native.Nat.{ℕ, suc, pred, ◌+◌, ◌-◌, ◌≤◌, ◌<◌}
use native.Mathlib.Omega.{arith}
use native.Mathlib.Nat.{sub-zero}
use mathlib.Core.Path.{◌≡◌, refl, sym, ap, ◌∙◌, subst}
use mathlib.Core.Bool.{true, false}
use mathlib.Core.List.{List, [], ◌∷◌}
use mathlib.Core.Option.{none, some}
use lib.ListN.{length}
use Rattle.reference.specs.Text.{Text}
use Rattle.reference.specs.Listing.{Listing}
use Rattle.reference.specs.Rules.{Rules}
use Rattle.reference.specs.Life.{Labels}
use Rattle.reference.specs.Join.{try_at, targets}
use Rattle.reference.specs.Demand.{Attempts, over, failed, succeeded}
use Rattle.reference.specs.Run.{labels_from, addressed_in, shift, Attempt, failure, success, attempts_from, propagate_once, dead_result, cuts_from, drop_dead_results}
use Rattle.reference.proofs.Cases.{some_inj, none-some}
use Rattle.reference.proofs.Rounds.{attempts as made}
use Rattle.reference.proofs.Lines.{length-modify}
use Rattle.reference.proofs.Changes.{removed-length}
use Rattle.reference.proofs.Attempts.{attempt_removed}
use Rattle.laws.proofs.Scans.{if-true, if-false}
use Rattle.joining.specs.Rounds.{attempts, cut_at, cuts}

-- ---- a round

module _ (rules : Rules) (addressed : List Text) where
  -- a line less after a success
  pub success-length : (lines : Listing) (i : ℕ) (labels : Labels) {lines' : Listing} → try_at rules lines i labels addressed ≡ some lines'
      → suc (length lines') ≡ length lines
  success-length lines i labels e = removed-length (attempt_removed rules lines i labels addressed e)

  -- a round's attempts are determined
  unique : {i : ℕ} {lines : Listing} {labels : Labels} {r r' : List Attempt} → Attempts rules addressed i lines labels r → Attempts rules addressed i lines labels r' → r ≡ r'
  unique (over h) (over k) = refl
  unique (over h) (failed k e m) = absurd (omega arith)
  unique (over h) (succeeded k e m) = absurd (omega arith)
  unique (failed h e m) (over k) = absurd (omega arith)
  unique (failed {i = i} {lines = lines} h e m) (failed k f n) = ap (λ (r : List Attempt). failure i lines ∷ r) (unique m n)
  unique (failed h e m) (succeeded k f n) = absurd (none-some (sym e ∙ f))
  unique (succeeded h e m) (over k) = absurd (omega arith)
  unique (succeeded h e m) (failed k f n) = absurd (none-some (sym f ∙ e))
  unique (succeeded {i = i} {lines = lines} {lines' = x} {labels = labels} h e m) (succeeded {lines' = y} {more = more} k f n) =
      let same : y ≡ x = some_inj (sym f ∙ e) in
      let tail = unique m (subst (λ (l : Listing). Attempts rules addressed (pred i) l (shift i labels) more) same n) in
      λ t. success i (targets rules lines i labels) (sym same t) ∷ tail t

  -- fuel for twice the lines that are left is enough: with more the attempts are the same (a theorem for readers of `attempts_from`)
  pub enough : (m n i : ℕ) (lines : Listing) (labels : Labels) → length lines + length lines ≤ m + i → length lines + length lines ≤ n + i
      → attempts_from rules addressed m i lines labels ≡ attempts_from rules addressed n i lines labels
  enough m n i lines labels p q = unique (made rules addressed m i lines labels p) (made rules addressed n i lines labels q)

  taken : (i : ℕ) (lines : Listing) (labels : Labels) → Attempts rules addressed i lines labels (attempts rules addressed i lines labels)
  unfolding attempts
  taken i lines labels = made rules addressed (length lines + length lines) i lines labels (omega arith)

  pub attempts_end : (i : ℕ) (lines : Listing) (labels : Labels) → length lines ≤ i → attempts rules addressed i lines labels ≡ []
  attempts_end i lines labels h = unique (taken i lines labels) (over h)

  pub attempts-failed : (i : ℕ) (lines : Listing) (labels : Labels) → i < length lines → try_at rules lines i labels addressed ≡ none
      → attempts rules addressed i lines labels ≡ failure i lines ∷ attempts rules addressed (suc i) lines labels
  attempts-failed i lines labels h e = unique (taken i lines labels) (failed h e (taken (suc i) lines labels))

  pub attempts-succeeded : (i : ℕ) (lines : Listing) (labels : Labels) {lines' : Listing} → i < length lines → try_at rules lines i labels addressed ≡ some lines'
      → attempts rules addressed i lines labels ≡ success i (targets rules lines i labels) lines' ∷ attempts rules addressed (pred i) lines' (shift i labels)
  attempts-succeeded i lines labels {lines'} h e = unique (taken i lines labels) (succeeded h e (taken (pred i) lines' (shift i labels)))

pub round_begins : (rules : Rules) (lines : Listing) → propagate_once rules lines ≡ attempts rules (addressed_in lines) 0 lines (labels_from 0 lines)
unfolding propagate_once attempts
round_begins rules lines = refl

-- ---- the cuts

pub cuts_begin : (rules : Rules) (lines : Listing) → drop_dead_results rules lines ≡ cuts rules (labels_from 0 lines) 0 lines
unfolding drop_dead_results cuts
cuts_begin rules lines = rw (sub-zero (length lines))

module _ (rules : Rules) (labels : Labels) (i : ℕ) (lines : Listing) where
  pub cuts_end : length lines ≤ i → cuts rules labels i lines ≡ []
  unfolding cuts cuts_from
  cuts_end h = let none_left : length lines - i ≡ 0 = omega arith in rw none_left

  pub cuts-kept : i < length lines → dead_result rules labels lines i ≡ false → cuts rules labels i lines ≡ cuts rules labels (suc i) lines
  unfolding cuts cuts_from
  cuts-kept h e = let one : length lines - i ≡ suc (length lines - suc i) = omega arith in rw one (if-false _ _ e)

  pub cuts-cut : i < length lines → dead_result rules labels lines i ≡ true → cuts rules labels i lines ≡ cut_at i lines ∷ cuts rules labels (suc i) (cut_at i lines)
  unfolding cuts cuts_from
  cuts-cut h e =
      let one : length lines - i ≡ suc (length lines - suc i) = omega arith in
      let same : length (cut_at i lines) ≡ length lines = length-modify _ i lines in
      rw (one, same) (if-true _ _ e)
