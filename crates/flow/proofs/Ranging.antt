-- A search over the part of a list from one place to another, place by place. Assumes nothing.
use Prim.Native.Nat.{ℕ, suc, ◌+◌, ◌-◌, ◌≤◌, ◌<◌}
use native.Mathlib.Omega.{arith}
use mathlib.Core.Path.{◌≡◌, refl, sym, ap, ◌∙◌}
use mathlib.Core.Bool.{Bool, true, false}
use mathlib.Core.List.{List, ◌∷◌}
use lib.ListN.{length, get_or, drop, take}
use Rattle.std.proofs.Math.Seq.{slice}
use Rattle.std.proofs.lemmas.List.{drop_more}
use Rattle.laws.proofs.Parts.{drop-take}
use Rattle.reference.specs.Control.{◌and◌, ◌or◌}
use Rattle.reference.specs.Lists.{any}
use Rattle.reference.specs.Text.{Text, has}
use Rattle.reference.specs.Listing.{Token, Listing}
use Rattle.reference.specs.Names.{Fam}
use Rattle.reference.specs.Rules.{Rules, volatile}
use Rattle.laws.proofs.Scans.{or_last}
use Rattle.cautions.specs.Forms.{places, ways, hangs, is_dark}
use Rattle.cautions.specs.Joins.{is_odd, past_call}
use Rattle.flow.specs.Between.{enters, calls}

or_end : (a : Bool) → (a or true) ≡ true
unfolding ◌or◌
or_end true = refl
or_end false = refl

module _ {A : Type 0} (p : A → Bool) (xs : List A) where
  -- what the places from k on, above c, answer
  abbrev pub rest : ℕ → ℕ → Bool
  rest k c = any p (take (c - k) (drop k xs))

  pub range_begin : (a c : ℕ) → rest a c ≡ any p (slice a c xs)
  range_begin a c = ap (any p) (sym (drop-take a c xs))

  module _ (d : A) (k c : ℕ) (h : k < c) (i : c ≤ length xs) {r : Bool} (v : rest k c ≡ r) where
    here : take (c - k) (drop k xs) ≡ get_or xs k d ∷ take (c - (k + 1)) (drop (k + 1) xs)
    here = let a : c - k ≡ suc (c - (k + 1)) = omega arith in rw (a, drop_more xs k d (omega arith)) refl

    pub range_found : p (get_or xs k d) ≡ true → true ≡ r
    unfolding ◌or◌
    range_found t = let w = rw here at v in (rw t refl) ∙ w

    pub range_on : p (get_or xs k d) ≡ false → rest (k + 1) c ≡ r
    unfolding ◌or◌
    range_on f = let w = rw here at v in (rw f refl) ∙ w

  pub range_end : (k c : ℕ) {r : Bool} → c ≤ k → rest k c ≡ r → false ≡ r
  range_end k c h v = let a : c - k ≡ 0 = omega arith in rw a at v

-- ---- what stands between

module _ (rules : Rules) (ls : Listing) (i : ℕ) (f : Fam) (expr : List Token) (last : ℕ) where
  module _ {e : Bool} (ee : e ≡ any enters (slice (suc i) (suc last) ls)) where
    pub odd_entered : e ≡ true → true ≡ is_odd rules ls (ways ls) i f expr last
    unfolding is_odd
    odd_entered t = rw (← ee, t, or_end (any (is_dark ls (ways ls)) (slice i (suc last) (places ls)))) (sym (or_end (hangs ls (ways ls) i)))

    module _ (ef : e ≡ false) {d : Bool} (ed : d ≡ any (is_dark ls (ways ls)) (slice i (suc last) (places ls))) where
      pub odd_dark : d ≡ true → true ≡ is_odd rules ls (ways ls) i f expr last
      unfolding is_odd ◌or◌
      odd_dark t = rw (← ed, t) (sym (or_end (hangs ls (ways ls) i)))

      pub odd_hanging : d ≡ false → {h : Bool} → h ≡ hangs ls (ways ls) i → h ≡ is_odd rules ls (ways ls) i f expr last
      unfolding is_odd ◌or◌
      odd_hanging g {h} eh = rw (← ed, g, ← ee, ef, or_last (hangs ls (ways ls) i)) eh

  module _ {fam : Text} (en : f.name ≡ fam) {v : Bool} (ev : v ≡ has (volatile rules) fam) where
    pub past_none : v ≡ false → false ≡ past_call rules ls (ways ls) i f expr last
    unfolding past_call ◌and◌
    past_none n = rw (en, ← ev, n) refl

    pub past_some : v ≡ true → {x : Bool} → x ≡ any calls (slice (suc i) last ls) → x ≡ past_call rules ls (ways ls) i f expr last
    unfolding past_call ◌and◌
    past_some t ex = rw (en, ← ev, t) ex
