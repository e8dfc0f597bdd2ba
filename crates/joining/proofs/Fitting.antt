-- The pieces of the plan for a use, by the index of its token: the token that was found, and the texts beside it. Assumes nothing.
use Prim.Native.Nat.{ℕ, suc, ◌-◌, ◌≤◌, ◌<◌, suc-le-suc}
use native.Mathlib.Omega.{arith}
use mathlib.Core.Path.{◌≡◌, refl, ◌∙◌, subst}
use mathlib.Core.Bool.{Bool, true, false}
use mathlib.Core.List.{List, [], ◌∷◌}
use mathlib.Core.Option.{Option, some}
use lib.ListN.{length, get_or}
use borrow.Author.Tests.{eq-eqb, ne_eqb}
use Rattle.reference.specs.Control.{◌and◌, ◌or◌}
use Rattle.reference.specs.Lists.{position}
use Rattle.reference.specs.Text.{Text}
use Rattle.reference.specs.Listing.{Token}
use Rattle.reference.specs.Join.{text_before, text_after, standalone}
use Rattle.reference.proofs.Cases.{by-if, bind-some, some_inj, none-some, both, fails, true-false}
use Rattle.laws.proofs.Scans.{if-true, if-false}
use Rattle.joining.proofs.Looking.{text_at, text_past}

-- what a search finds
pub found_at {ℓ} : {A : Type ℓ} (q : A → Bool) (xs : List A) (k : ℕ) (d : A) → position q xs ≡ some k → (k < length xs) × (q (get_or xs k d) ≡ true)
found_at q [] k d = λ e. absurd (none-some e)
found_at q (x ∷ xs) k d =
    by-if (λ (o : Option ℕ). o ≡ some k → (k < suc (length xs)) × (q (get_or (x ∷ xs) k d) ≡ true))
    (λ h e. (let lt : 0 < suc (length xs) = omega arith in subst (λ (n : ℕ). (n < suc (length xs)) × (q (get_or (x ∷ xs) n d) ≡ true)) (some_inj e) (lt, h)))
    (λ h e.
    (let b = bind-some e in
    let r = found_at q xs b.0 d b.1 in
    subst (λ (n : ℕ). (n < suc (length xs)) × (q (get_or (x ∷ xs) n d) ≡ true)) (some_inj b.2) (suc-le-suc r.0, r.1)))

-- the texts beside it
module _ (toks : List Token) (pos : ℕ) where
  pub before_at : (d : Token) → 0 < pos → pos ≤ length toks → text_before toks pos ≡ (get_or toks (pos - 1) d).text
  unfolding text_before
  before_at d h le = if-false _ _ (ne_eqb pos 0 (λ e. omega arith)) ∙ text_at toks (pos - 1) d (omega arith)

  pub after_at : (d : Token) → suc pos < length toks → text_after toks pos ≡ (get_or toks (suc pos) d).text
  unfolding text_after
  after_at d h = text_at toks (suc pos) d h

  -- at either end of the line it does not stand alone
  pub first-not-standalone : pos ≡ 0 → standalone (text_before toks pos) (text_after toks pos) ≡ false
  unfolding text_before standalone ◌or◌ ◌and◌
  first-not-standalone e = rw (if-true {A = Text} [] _ (eq-eqb pos 0 e))

  pub last-not-standalone : length toks ≤ suc pos → standalone (text_before toks pos) (text_after toks pos) ≡ false
  unfolding text_after standalone ◌or◌
  last-not-standalone h = rw (text_past toks (suc pos) h) (fails (λ u. true-false (both u).1 refl))
