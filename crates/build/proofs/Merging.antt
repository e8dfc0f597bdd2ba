-- A push at a time is `merge`. Assumes nothing.
use mathlib.Core.Path.{◌≡◌, refl, ap, ◌∙◌}
use mathlib.Core.Bool.{Bool, true, false}
use mathlib.Core.List.{List, [], ◌∷◌, ◌++◌, append_assoc}
use lib.Dec.{eqb}
use borrow.Author.Tests.{eq-eqb, ne_eqb}
use Rattle.reference.specs.Control.{◌and◌, when◌then◌else◌}
use Rattle.reference.specs.Listing.{Token, token, is}
use Rattle.reference.specs.Numbers.{joins, merge_into, merge}
use Rattle.laws.proofs.Scans.{if-true, if-false, and_true, and_false}
use Rattle.build.specs.State.{push_token, pushes, joinable}

-- ---- whether two tokens are joined

joins_is : (a b : Token) → joins a b ≡ (eqb a.kind b.kind and joinable b.kind)
unfolding joins joinable is
joins_is a b = refl

module _ (a t : Token) where
  pub no_join_kind : (a.kind ≡ t.kind → ⊥) → joins a t ≡ false
  no_join_kind n = joins_is a t ∙ and_false _ (ne_eqb _ _ n)

  pub no_join_ever : joinable t.kind ≡ false → joins a t ≡ false
  unfolding ◌and◌
  no_join_ever e = joins_is a t ∙ rw e (last (eqb a.kind t.kind))
    where
      last : (b : Bool) → (b and false) ≡ false
      last true = refl
      last false = refl

  pub join-now : a.kind ≡ t.kind → joinable t.kind ≡ true → joins a t ≡ true
  join-now e j = joins_is a t ∙ and_true _ (eq-eqb _ _ e) ∙ j

-- ---- one push

pub push_joined : (cur : List Token) (a t : Token) → joins a t ≡ true → push_token (cur ++ (a ∷ [])) t ≡ cur ++ (token a.kind (a.text ++ t.text) ∷ [])
unfolding push_token
push_joined [] a t e = if-true _ _ e
push_joined (x ∷ []) a t e = ap (λ (l : List Token). x ∷ l) (push_joined [] a t e)
push_joined (x ∷ y ∷ cur) a t e = ap (λ (l : List Token). x ∷ l) (push_joined (y ∷ cur) a t e)

pub push_added : (cur : List Token) (a t : Token) → joins a t ≡ false → push_token (cur ++ (a ∷ [])) t ≡ cur ++ (a ∷ []) ++ (t ∷ [])
unfolding push_token
push_added [] a t e = if-false _ _ e
push_added (x ∷ []) a t e = ap (λ (l : List Token). x ∷ l) (push_added [] a t e)
push_added (x ∷ y ∷ cur) a t e = ap (λ (l : List Token). x ∷ l) (push_added (y ∷ cur) a t e)

pub push_first : (t : Token) → push_token [] t ≡ t ∷ []
unfolding push_token
push_first t = refl

-- ---- several

pub pushes_one : (out : List Token) (t : Token) → pushes out (t ∷ []) ≡ push_token out t
unfolding pushes
pushes_one out t = refl

pub pushes_append : (out ts us : List Token) → pushes out (ts ++ us) ≡ pushes (pushes out ts) us
unfolding pushes
pushes_append out [] us = refl
pushes_append out (t ∷ ts) us = pushes_append (push_token out t) ts us

pushes-into : (cur : List Token) (a : Token) (ts : List Token) → pushes (cur ++ (a ∷ [])) ts ≡ cur ++ merge_into a ts
unfolding pushes merge_into when◌then◌else◌
pushes-into cur a [] = refl
pushes-into cur a (t ∷ ts) = step (pushes-into cur (token a.kind (a.text ++ t.text)) ts) (pushes-into (cur ++ (a ∷ [])) t ts) (joins a t) refl
  where
    step : pushes (cur ++ (token a.kind (a.text ++ t.text) ∷ [])) ts ≡ cur ++ merge_into (token a.kind (a.text ++ t.text)) ts
        → pushes (cur ++ (a ∷ []) ++ (t ∷ [])) ts ≡ cur ++ (a ∷ []) ++ merge_into t ts
        → (b : Bool) → joins a t ≡ b
        → pushes (push_token (cur ++ (a ∷ [])) t) ts ≡ cur ++ (when b then merge_into (token a.kind (a.text ++ t.text)) ts else a ∷ merge_into t ts)
    step joined on true e = rw (push_joined cur a t e) joined
    step joined on false e = rw (push_added cur a t e) (on ∙ append_assoc cur (a ∷ []) (merge_into t ts))

-- tokens pushed one after the other onto an empty line are merged
pub pushes-merge : (ts : List Token) → pushes [] ts ≡ merge ts
unfolding pushes merge
pushes-merge [] = refl
pushes-merge (t ∷ ts) = rw push_first (pushes-into [] t ts)
