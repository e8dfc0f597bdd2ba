-- The cautions of attempts: what one attempt does to the sets is what `carry` does to them (`raises_failed`, `raises_joined`), and so is what one
-- does after the other (`raises_then`). Assumes nothing.
use mathlib.Core.Path.{◌≡◌, refl, sym, ap, ◌∙◌}
use mathlib.Core.List.{List, [], ◌∷◌, ◌++◌}
use Prim.Native.Nat.{ℕ}
use Rattle.reference.specs.Control.{when◌then◌else◌}
use Rattle.reference.specs.Listing.{Listing}
use Rattle.reference.specs.Rules.{Rules}
use Rattle.reference.specs.Run.{Attempt, failure, success, after_attempts}
use Rattle.cautions.specs.Joins.{join_cautions}
use Rattle.cautions.specs.Cautions.{both, hand_on, carry}
use Rattle.cautions.proofs.Bare.{join-cautions-bare}
use Rattle.lines.specs.Lines.{Reading}
use Rattle.lines.proofs.words.Lines.{bare-means}
use Rattle.build.specs.State.{used}
use Rattle.build.specs.Added.{used_words}
use Rattle.raising.specs.declared.tables.Raising.{Raising}
use Rattle.raising.specs.Tables.{is_on, sets_now}
use Rattle.join.specs.Contents.{Contents, used_lines, listing_now, bare_now}
use Rattle.join.specs.Attempts.{targets_now}
use Rattle.join.specs.Cautions.{JoinRaised}
use Rattle.rounds.specs.Cautions.{Raises}

carry_append : (rules : Rules) (lines : Listing) (xs ys : List Attempt) (sets : List ℕ)
    → carry rules lines (xs ++ ys) sets ≡ carry rules (after_attempts lines xs) ys (carry rules lines xs sets)
unfolding carry after_attempts
carry_append rules lines [] ys sets = refl
carry_append rules lines (x ∷ xs) ys sets = carry_append rules x.left xs ys _

module _ (rules : Rules) (lines : Listing) (s : Contents) (t : Raising) where
  pub raises_none : Raises rules lines [] s t s t
  unfolding carry
  raises_none on = refl

  pub raises_failed : (i : ℕ) → Raises rules lines (failure i lines ∷ []) s t s t
  unfolding carry when◌then◌else◌
  raises_failed i on = refl

  -- one after the other
  pub raises_then : (xs ys : List Attempt) (s₁ : Contents) (t₁ : Raising) (s₂ : Contents) (t₂ : Raising) → is_on t₁ ≡ is_on t
      → Raises rules lines xs s t s₁ t₁ → Raises rules (after_attempts lines xs) ys s₁ t₁ s₂ t₂ → Raises rules lines (xs ++ ys) s t s₂ t₂
  raises_then xs ys s₁ t₁ s₂ t₂ e f g on =
      g (e ∙ on)
      ∙ ap (carry rules (after_attempts lines xs) ys) (f on)
      ∙ sym (carry_append rules lines xs ys (sets_now (bare_now s) t))

module _ (rules : Rules) (s : Contents) (t : Raising) (labels : List ℕ) (i : ℕ) (s' : Contents) (t' : Raising) (j : JoinRaised rules s labels i t s' t')
    (addresses : Reading) where
  abbrev lines : Listing
  lines = listing_now s addresses

  abbrev left : Listing
  left = listing_now s' addresses

  same_kinds : (into : List ℕ) → join_cautions rules (bare_now s) (success i into (bare_now s')) ≡ join_cautions rules lines (success i into left)
  same_kinds into =
      rw (
        bare-means s.tape (used s.area s.size) (used_words s.tokens s.size) addresses (used_lines s),
        bare-means s'.tape (used s'.area s'.size) (used_words s'.tokens s'.size) addresses (used_lines s'),
      )
      (join-cautions-bare rules lines left i into)

  pub raises_joined : {into : List ℕ} → targets_now rules s labels i ≡ into → Raises rules lines (success i into left ∷ []) s t s' t'
  unfolding carry when◌then◌else◌
  raises_joined {into} e on =
      let sets : List ℕ = sets_now (bare_now s) t in
      let was : List ℕ = targets_now rules s labels i in
      j.sets on
      ∙ ap (λ (kinds : List ℕ). hand_on i was (both sets kinds)) (same_kinds was)
      ∙ ap (λ (js : List ℕ). hand_on i js (both sets (join_cautions rules lines (success i js left)))) e
