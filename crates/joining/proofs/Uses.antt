-- The lines that use a family, by their places: what `gather` and `use_from` find. Assumes nothing.
use Prim.Native.Nat.{ℕ, suc, ◌≤◌, ◌<◌}
use native.Mathlib.Omega.{arith}
use mathlib.Core.Path.{◌≡◌, refl, sym, ap, ◌∙◌, subst}
use mathlib.Core.Bool.{Bool, true, false}
use mathlib.Core.List.{List, [], ◌∷◌}
use mathlib.Core.Option.{Option, some}
use lib.Dec.{leb}
use borrow.Author.Tests.{le-leb, lt-leb}
use Rattle.reference.specs.Control.{◌and◌, when◌then◌else◌}
use Rattle.reference.specs.Text.{Text}
use Rattle.reference.specs.Listing.{Token, Line, Listing}
use Rattle.reference.specs.Life.{None, Kill, Use, touch, match_touch, is_use}
use Rattle.reference.specs.Join.{Uses, gather, use_from}
use Rattle.reference.proofs.Cases.{by-if, by_touch, both, fails, true-false, some_inj, none-some, if_some, unless-some}
use Rattle.laws.proofs.Scans.{if-true, if-false, and_true}

module _ (fam : Text) (volatile : List Text) where
  -- the places, from j on and up to `last`, of the lines that use the family
  unfoldable pub uses_upto : ℕ → ℕ → Listing → List ℕ
  uses_upto last j [] = []
  uses_upto last j (l ∷ ls) =
      let r = uses_upto last (suc j) ls in
      when leb j last and is_use (touch l fam volatile) then j ∷ r else r

  pub uses_past : (last j : ℕ) (ls : Listing) → last < j → uses_upto last j ls ≡ []
  unfolding uses_upto when◌then◌else◌ ◌and◌
  uses_past last j [] h = refl
  uses_past last j (l ∷ ls) h = rw (lt-leb j last h) (uses_past last (suc j) ls (omega arith))

  -- a line that does not use the family, and one that does
  skip : (last j : ℕ) (l : Line) (ls : Listing) → is_use (touch l fam volatile) ≡ false → uses_upto last j (l ∷ ls) ≡ uses_upto last (suc j) ls
  unfolding uses_upto
  skip last j l ls e = if-false _ _ (fails (λ h. true-false (both h).1 e))

  here : (last j : ℕ) (l : Line) (ls : Listing) → j ≤ last → is_use (touch l fam volatile) ≡ true → uses_upto last j (l ∷ ls) ≡ j ∷ uses_upto last (suc j) ls
  unfolding uses_upto
  here last j l ls h e = if-true _ _ (and_true _ (le-leb j last h) ∙ e)

  unused : (l : Line) → touch l fam volatile ≡ None → is_use (touch l fam volatile) ≡ false
  unfolding match_touch
  unused l t = rw t

  killed : (l : Line) → touch l fam volatile ≡ Kill → is_use (touch l fam volatile) ≡ false
  unfolding match_touch
  killed l t = rw t

  used : (l : Line) (n : ℕ) → touch l fam volatile ≡ Use n → is_use (touch l fam volatile) ≡ true
  unfolding match_touch
  used l n t = rw t

  -- one use, the last
  lone : (j : ℕ) (l : Line) (ls : Listing) (n : ℕ) → touch l fam volatile ≡ Use n → uses_upto j j (l ∷ ls) ≡ j ∷ []
  lone j l ls n t = here j j l ls (omega arith) (used l n t) ∙ ap (λ (r : List ℕ). j ∷ r) (uses_past j (suc j) ls (omega arith))

  module _ (base-indent : ℕ) where
    pub gather-last : (j : ℕ) (ls : Listing) (last : ℕ) → last < j → last ≤ (gather base-indent fam volatile j ls last).last
    unfolding gather
    gather-last j [] last h = omega arith
    gather-last j (l ∷ ls) last h =
        by-if (λ (u : Uses). last ≤ u.last)
        (λ e. omega arith)
        (λ e. by_touch (λ (u : Uses). last ≤ u.last)
        (λ t. by-if (λ (u : Uses). last ≤ u.last) (λ o. omega arith) (λ o. gather-last (suc j) ls last (omega arith)))
        (λ t. omega arith)
        (λ n t. by-if (λ (u : Uses). last ≤ u.last) (λ o. omega arith) (λ o. omega (arith, gather-last (suc j) ls j (omega arith)))))

    -- `gather` finds the lines up to its last one that use the family
    pub gather_uses : (j : ℕ) (ls : Listing) (last : ℕ) → last < j
        → (gather base-indent fam volatile j ls last).uses ≡ uses_upto (gather base-indent fam volatile j ls last).last j ls
    unfolding gather
    gather_uses j [] last h = sym (uses_past _ j [] h)
    gather_uses j (l ∷ ls) last h =
        by-if (λ (u : Uses). u.uses ≡ uses_upto u.last j (l ∷ ls))
        (λ e. sym (uses_past last j (l ∷ ls) h))
        (λ e. by_touch (λ (u : Uses). u.uses ≡ uses_upto u.last j (l ∷ ls))
        (λ t. by-if (λ (u : Uses). u.uses ≡ uses_upto u.last j (l ∷ ls))
        (λ o. sym (uses_past last j (l ∷ ls) h))
        (λ o. gather_uses (suc j) ls last (omega arith) ∙ sym (skip _ j l ls (unused l t))))
        (λ t. sym (skip j j l ls (killed l t) ∙ uses_past j (suc j) ls (omega arith)))
        (λ n t. by-if (λ (u : Uses). u.uses ≡ uses_upto u.last j (l ∷ ls))
        (λ o. sym (lone j l ls n t))
        (λ o. ap (λ (r : List ℕ). j ∷ r) (gather_uses (suc j) ls j (omega arith)) ∙ sym (here _ j l ls (gather-last (suc j) ls j (omega arith)) (used l n t)))))

  -- the line that `use_from` finds is the only one up to there that uses the family
  module _ (base-indent : ℕ) (expr : List Token) (is_call : Bool) where
    pub single_use : (j : ℕ) (ls : Listing) (k : ℕ) → use_from base-indent fam expr is_call volatile j ls ≡ some k → uses_upto k j ls ≡ k ∷ []
    unfolding use_from
    single_use j [] k e = absurd (none-some e)
    single_use j (l ∷ ls) k e =
        by_touch (λ (o : Option ℕ). o ≡ some k → uses_upto k j (l ∷ ls) ≡ k ∷ [])
        (λ t v. skip k j l ls (unused l t) ∙ single_use (suc j) ls k (if_some v).1)
        (λ t v. absurd (none-some v))
        (λ n t v. subst (λ (m : ℕ). uses_upto m j (l ∷ ls) ≡ m ∷ []) (some_inj (if_some v).1) (lone j l ls n t))
        (unless-some e).1
