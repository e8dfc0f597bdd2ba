-- The names that are addressed when a round begins: each of them begins `var_`. Assumes nothing.
use mathlib.Core.Path.{◌≡◌, refl, sym, ap, ◌∙◌}
use mathlib.Core.Bool.{false}
use mathlib.Core.List.{List, [], ◌∷◌}
use Rattle.reference.specs.Lists.{windows}
use Rattle.reference.specs.Text.{Text, bytes, has, ◌≟◌, starts_with}
use Rattle.reference.specs.Listing.{Token, Listing}
use Rattle.reference.specs.Run.{addressed_here, addressed_in}
use Rattle.reference.proofs.Cases.{by-if, both, fails, true-false}
use Rattle.reference.proofs.Shapes.{same_text}
use Rattle.laws.proofs.Scans.{any_append, or_false}

-- a name that does not begin `var_` is not among them
module _ (name : Text) (other : starts_with name (bytes "var_") ≡ false) where
  here : (ws : List (Token × Token)) → has (addressed_here ws) name ≡ false
  unfolding addressed_here
  here [] = refl
  here (w ∷ ws) =
      by-if (λ (names : List Text). has names name ≡ false)
      (λ t. or_false _ (fails (λ e. true-false (ap (λ (s : Text). starts_with s (bytes "var_")) (sym (same_text w.1.text name e)) ∙ (both t).1) other)) ∙ here ws)
      (λ t. here ws)

  pub addressed_slots : (lines : Listing) → has (addressed_in lines) name ≡ false
  unfolding addressed_in
  addressed_slots [] = refl
  addressed_slots (l ∷ ls) =
      any_append (◌≟ name) (addressed_here (windows l.tokens)) (addressed_in ls) ∙ or_false _ (here (windows l.tokens)) ∙ addressed_slots ls
