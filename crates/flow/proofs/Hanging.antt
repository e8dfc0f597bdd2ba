-- Whether a line hangs on the line above it: the scan upwards, line by line. Assumes nothing.
use Prim.Native.Nat.{ℕ, ◌+◌, ◌-◌, ◌≤◌, ◌<◌}
use native.Mathlib.Omega.{arith}
use mathlib.Core.Path.{◌≡◌, refl, ap, ◌∙◌}
use mathlib.Core.Bool.{Bool, true, false, not as flip}
use mathlib.Core.List.{List, [], ◌∷◌, reverse}
use mathlib.Core.Option.{Option, none, some}
use lib.ListN.{length, take, get_or}
use Rattle.std.proofs.lemmas.List.{take_more, reverse-append}
use Rattle.reference.specs.Control.{not, when◌then◌else◌, let_some◌else◌then◌}
use Rattle.reference.specs.Lists.{find, is_some}
use Rattle.reference.specs.Text.{bytes, ◌≟◌}
use Rattle.reference.specs.Listing.{Listing, ◌at◌}
use Rattle.laws.proofs.Scans.{not_same}
use Rattle.cautions.specs.Forms.{form, places, next, ways, hangs}
use Rattle.flow.specs.Ways.{forms_of}
use Rattle.flow.proofs.Walking.{place_at, places_long, ways_at}

last_first : (ks : List ℕ) (n : ℕ) → n < length ks → reverse (take (n + 1) ks) ≡ get_or ks n 0 ∷ reverse (take n ks)
last_first ks n h = ap reverse (take_more ks n 0 h) ∙ reverse-append (take n ks) (get_or ks n 0 ∷ [])

module _ (ls : Listing) where
  hangs_more : (k : ℕ) → k < length ls
      → hangs ls (ways ls) (k + 1)
      ≡ (when not (form (ls at k).tokens ≟ bytes ":") then not (is_some (get_or (ways ls) k none)) else hangs ls (ways ls) k)
  unfolding hangs let_some◌else◌then◌ when◌then◌else◌
  hangs_more k h =
      rw (last_first (places ls) k (omega (arith, places_long ls)), place_at ls k h)
      (go (not (form (ls at k).tokens ≟ bytes ":")) (find (λ k. not (form (ls at k).tokens ≟ bytes ":")) (reverse (take k (places ls)))))
    where
      go : (b : Bool) (o : Option ℕ)
          → (let_some (when b then some k else o) else false then λ k. not (is_some (get_or (ways ls) k none)))
          ≡ (when b then not (is_some (get_or (ways ls) k none)) else (let_some o else false then λ k. not (is_some (get_or (ways ls) k none))))
      go true o = refl
      go false o = refl

  module _ (i j : ℕ) (h : j < i) (b : i < length ls) {r : Bool} (inv : hangs ls (ways ls) (i - j) ≡ r) where
    up_line : (when not (form (ls at (i - 1 - j)).tokens ≟ bytes ":") then not (is_some (next ls (forms_of ls) (i - 1 - j)))
        else hangs ls (ways ls) (i - (j + 1))) ≡ r
    up_line =
        let e : i - j ≡ (i - 1 - j) + 1 = omega arith in
        let f : i - (j + 1) ≡ i - 1 - j = omega arith in
        rw f (rw (e, hangs_more (i - 1 - j) (omega arith), ways_at ls (i - 1 - j) (omega arith)) at inv)

    pub hangs_here : {x y : Bool} → x ≡ (form (ls at (i - 1 - j)).tokens ≟ bytes ":") → x ≡ false
        → y ≡ is_some (next ls (forms_of ls) (i - 1 - j)) → flip y ≡ r
    unfolding not when◌then◌else◌
    hangs_here ex f ey = not_same ey ∙ (rw (← ex, f) at up_line)

    pub hangs_further : {x : Bool} → x ≡ (form (ls at (i - 1 - j)).tokens ≟ bytes ":") → x ≡ true → hangs ls (ways ls) (i - (j + 1)) ≡ r
    unfolding not when◌then◌else◌
    hangs_further ex t = rw (← ex, t) at up_line

  pub hangs_end : (i j : ℕ) → i ≤ j → {r : Bool} → hangs ls (ways ls) (i - j) ≡ r → false ≡ r
  unfolding hangs let_some◌else◌then◌
  hangs_end i j h inv = let e : i - j ≡ 0 = omega arith in rw e at inv
