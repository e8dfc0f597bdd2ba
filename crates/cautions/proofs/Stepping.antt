-- What code that keeps the cautions step by step can cite: a sweep that reaches nothing new is the last, a step puts its sets on those that are there, and
-- the cuts one by one. Assumes nothing.
use Prim.Native.Nat.{ℕ, zero, suc}
use native.Mathlib.Omega.{arith}
use mathlib.Core.Path.{◌≡◌, refl, sym, ap, ◌∙◌}
use mathlib.Core.Bool.{Bool, true, false}
use mathlib.Core.List.{List, [], ◌∷◌}
use lib.Dec.{eqb}
use lib.ListN.{length, drop}
use Rattle.std.specs.Int.Bits.{or_zero_r}
use Rattle.reference.specs.Control.{when◌then◌else◌}
use Rattle.reference.specs.Lists.{any, modify}
use Rattle.reference.specs.Listing.{Listing, with_tokens}
use Rattle.reference.specs.Rules.{Rules}
use Rattle.reference.specs.Life.{Labels}
use Rattle.reference.specs.Run.{Attempt, failure, success, dead_result}
use Rattle.laws.proofs.Scans.{if-true, if-false}
use Rattle.cautions.specs.Kinds.{◌given◌}
use Rattle.cautions.specs.Forms.{sweep, sweeps}
use Rattle.cautions.specs.Joins.{none_yet, put, join_cautions, cut_cautions}
use Rattle.cautions.specs.Cautions.{Cut, cuts_made, both, with_cuts, hand_on, carry}
use Rattle.cautions.proofs.Sets.{or_assoc}

-- ---- sweeps

-- after a sweep that reaches nothing new there is nothing to do
pub sweeps_rest : (n : ℕ) (onward : List (List ℕ)) (seen : List Bool) → sweep 0 onward seen ≡ seen → sweeps n onward seen ≡ seen
unfolding sweeps
sweeps_rest zero onward seen e = refl
sweeps_rest (suc n) onward seen e = ap (sweeps n onward) e ∙ sweeps_rest n onward seen e

-- ---- sets put on those that are there

pub both_none : (sets : List ℕ) (lines : Listing) → length sets ≡ length lines → both sets (none_yet lines) ≡ sets
unfolding both
both_none [] [] e = refl
both_none [] (l ∷ lines) e = absurd (omega arith)
both_none (s ∷ ss) [] e = absurd (omega arith)
both_none (s ∷ ss) (l ∷ lines) e = λ k. or_zero_r s k ∷ both_none ss lines (omega arith) k

pub both_put : (s : ℕ) (js : List ℕ) (p : ℕ) (sets ts : List ℕ) → length sets ≡ length ts → both sets (put s js p ts) ≡ put s js p (both sets ts)
unfolding both put
both_put s js p [] ts e = refl
both_put s js p (t ∷ ts) [] e = absurd (omega arith)
both_put s js p (t ∷ ts) (u ∷ us) e = λ k. sym (or_assoc t u (s given any (eqb p) js)) k ∷ both_put s js (suc p) ts us (omega arith) k

-- ---- one attempt, one line of the cuts

pub carry_failed : (rules : Rules) (lines : Listing) (i : ℕ) (more : List Attempt) (sets : List ℕ)
    → carry rules lines (failure i lines ∷ more) sets ≡ carry rules lines more sets
unfolding carry when◌then◌else◌
carry_failed rules lines i more sets = refl

pub carry_joined : (rules : Rules) (lines left : Listing) (i : ℕ) (into : List ℕ) (more : List Attempt) (sets : List ℕ)
    → carry rules lines (success i into left ∷ more) sets
    ≡ carry rules left more (hand_on i into (both sets (join_cautions rules lines (success i into left))))
unfolding carry when◌then◌else◌
carry_joined rules lines left i into more sets = refl

module _ (rules : Rules) (labels : Labels) (n i : ℕ) (lines : Listing) (sets : List ℕ) where
  pub cuts_pass : dead_result rules labels lines i ≡ false
      → with_cuts rules (cuts_made rules labels (suc n) i lines) sets ≡ with_cuts rules (cuts_made rules labels n (suc i) lines) sets
  unfolding cuts_made
  cuts_pass e = ap (λ (cs : List Cut). with_cuts rules cs sets) (if-false _ _ e)

  pub cuts_cut : dead_result rules labels lines i ≡ true
      → with_cuts rules (cuts_made rules labels (suc n) i lines) sets
      ≡ with_cuts rules (cuts_made rules labels n (suc i) (modify i (λ l. with_tokens (drop 2 l.tokens) l) lines))
      (both sets (cut_cautions rules lines i))
  unfolding cuts_made with_cuts
  cuts_cut e = ap (λ (cs : List Cut). with_cuts rules cs sets) (if-true _ _ e)
