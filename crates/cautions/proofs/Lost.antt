-- No caution is lost (`nothing_lost`): a line that is removed is joined into one line at least, and a cut takes no caution away. And where no
-- step succeeds there is none (`quiet`). Assumes nothing.
use Prim.Native.Nat.{ℕ, zero, suc, ◌<◌}
use native.Mathlib.Omega.{arith}
use mathlib.Core.Path.{◌≡◌, refl, sym, ap, ◌∙◌, subst}
use mathlib.Core.Logic.{◌⊎◌, ⊎_elim}
use mathlib.Core.Bool.{Bool, true, false}
use mathlib.Core.List.{List, [], ◌∷◌, ◌++◌, map}
use mathlib.Core.Option.{some}
use lib.Dec.{eqb}
use lib.ListN.{length, get_or}
use Rattle.std.proofs.lemmas.Bool.{cases_order}
use borrow.Author.Tests.{eq-eqb, eqb-true, eqb-false}
use Rattle.reference.specs.Control.{◌or◌, when◌then◌else◌}
use Rattle.reference.specs.Lists.{any, get}
use Rattle.reference.specs.Listing.{Listing}
use Rattle.reference.specs.Rules.{Rules}
use Rattle.reference.specs.Life.{Labels}
use Rattle.reference.specs.Run.{Attempt, success, labels_from, changed, after_attempts, cuts_from, drop_dead_results, dead_result, run, attempts_of}
use Rattle.reference.specs.Marks.{moved, comes_to}
use Rattle.reference.proofs.Attempts.{Joined}
use Rattle.reference.proofs.Cases.{some_inj, none-some, true-false, neither}
use Rattle.reference.proofs.Limits.{All}
use Rattle.reference.proofs.Spans.{moved-above, moved-below}
use Rattle.cautions.specs.Kinds.{◌∪◌, ◌⊆◌}
use Rattle.cautions.specs.Forms.{places, places_from}
use Rattle.cautions.specs.Joins.{none_yet, join_cautions, cut_cautions}
use Rattle.cautions.specs.Cautions.{picked, joined, Cut, both, with_cuts, uncut, cuts_of, cuts_made, finished_cautions, NothingLost, Quiet}
use Rattle.cautions.proofs.Sets.{in_self, in_trans, in_left, in_right, get_both, picked_has}
use Rattle.cautions.proofs.Handed.{through_it, through_others}
use Rattle.cautions.proofs.Carried.{Along, rest, stays, joins, run_along, uncut_length, cuts_long, by_place_at}

-- ---- where a line comes to

moved_inside : (n i p : ℕ) → p < suc n → i < suc n → (p ≡ i → ⊥) → moved i p < n
moved_inside n i p h k z =
    ⊎_elim
    (λ (e : p ≡ i). absurd (z e))
    (λ (o : (p < i) ⊎ (i < p)).
    ⊎_elim
    (λ (lt : p < i). subst (λ (m : ℕ). m < n) (sym (moved-below i p (omega arith))) (omega arith))
    (λ (gt : i < p). subst (λ (m : ℕ). m < n) (sym (moved-above i p gt)) (omega arith))
    o)
    (cases_order p i)

-- a line of the first listing comes to a line of the last
abbrev Somewhere : List Attempt → ℕ → ℕ → Type 0
Somewhere attempts m p = (q : ℕ) × (q < m) × (comes_to attempts p q ≡ true)

module _ {n m i : ℕ} (left : Listing) (more : List Attempt) (k : i < suc n) (next : (p : ℕ) → p < n → Somewhere more m p) where
  first_target : (js : List ℕ) → Joined i (suc n) js → (q : ℕ) × (q < m) × (any (λ j. comes_to more (moved i j) q) js ≡ true)
  unfolding ◌or◌
  first_target [] j = absurd (omega (arith, j.some_line))
  first_target (x ∷ xs) j =
      let b = j.each.0 in
      let r = next (moved i x) (moved_inside n i x b.1 k (λ e. omega (arith, b.0))) in
      (r.0, r.1, rw r.2 refl)

  somewhere : (js : List ℕ) → Joined i (suc n) js → (p : ℕ) → p < suc n → (b : Bool) → eqb p i ≡ b → Somewhere (success i js left ∷ more) m p
  somewhere js j p h true e =
      let r = first_target js j in
      (r.0, r.1, subst (λ (x : ℕ). comes_to (success i js left ∷ more) x r.0 ≡ true) (sym (eqb-true p i e)) (through_it i js left more r.0 ∙ r.2))
  somewhere js j p h false e =
      let z = eqb-false p i e in
      let r = next (moved i p) (moved_inside n i p h k z) in
      (r.0, r.1, through_others i js left more r.0 p z ∙ r.2)

comes_somewhere : {lines after : Listing} {attempts : List Attempt} → Along lines attempts after → (p : ℕ) → p < length lines
    → Somewhere attempts (length after) p
unfolding comes_to when◌then◌else◌
comes_somewhere rest p h = (p, h, eq-eqb p p refl)
comes_somewhere (stays r) p h = comes_somewhere r p h
comes_somewhere (joins {lines = lines} {left = left} {i = i} {js = js} {more = more} k f j r) p h =
    somewhere {n = length left} left more (omega (arith, f)) (λ p h. comes_somewhere r p h) js
    (subst (λ (n : ℕ). Joined i n js) (sym f) j) p (omega (arith, f)) (eqb p i) refl

-- ---- the joins

-- the rest of some attempts
along_rest : {lines after : Listing} (before : List Attempt) {more : List Attempt} → Along lines (before ++ more) after
    → Along (after_attempts lines before) more after
unfolding after_attempts
along_rest [] p = p
along_rest (b ∷ bs) (stays p) = along_rest bs p
along_rest (b ∷ bs) (joins h f j p) = along_rest bs p

-- what a line has of the later ones it has of all
joined_later : (rules : Rules) (lines : Listing) (before more : List Attempt) (q : ℕ)
    → joined rules (after_attempts lines before) more q ⊆ joined rules lines (before ++ more) q
unfolding after_attempts joined
joined_later rules lines [] more q = in_self (joined rules lines more q)
joined_later rules lines (b ∷ bs) more q =
    go b.removed (picked (λ p. comes_to (b ∷ bs ++ more) p q) (join_cautions rules lines b)) (joined_later rules b.left bs more q)
  where
    go : (t : Bool) (own : ℕ) → joined rules (after_attempts b.left bs) more q ⊆ joined rules b.left (bs ++ more) q
        → joined rules (after_attempts b.left bs) more q
        ⊆ (when t then own ∪ joined rules b.left (bs ++ more) q else joined rules b.left (bs ++ more) q)
    go true own h =
        unfold when◌then◌else◌ in
        in_trans (joined rules (after_attempts b.left bs) more q) (joined rules b.left (bs ++ more) q) _ h
        (in_right own (joined rules b.left (bs ++ more) q))
    go false own h = unfold when◌then◌else◌ in h

joined_own : (rules : Rules) (lines : Listing) (a : Attempt) (more : List Attempt) (p q : ℕ) → a.removed ≡ true → comes_to (a ∷ more) p q ≡ true
    → get_or (join_cautions rules lines a) p 0 ⊆ joined rules lines (a ∷ more) q
unfolding joined
joined_own rules lines a more p q e h =
    let own : ℕ = picked (λ p. comes_to (a ∷ more) p q) (join_cautions rules lines a) in
    let on : ℕ = joined rules a.left more q in
    subst (λ (t : Bool). get_or (join_cautions rules lines a) p 0 ⊆ (when t then own ∪ on else on)) (sym e)
    (unfold when◌then◌else◌ in
    in_trans (get_or (join_cautions rules lines a) p 0) own (own ∪ on)
    (picked_has (λ p. comes_to (a ∷ more) p q) (join_cautions rules lines a) p h) (in_left own on))

-- ---- the cuts

with_cuts-keeps : (rules : Rules) (cuts : List Cut) (sets : List ℕ) (q : ℕ) → get_or sets q 0 ⊆ get_or (with_cuts rules cuts sets) q 0
unfolding with_cuts
with_cuts-keeps rules [] sets q = in_self (get_or sets q 0)
with_cuts-keeps rules (c ∷ cuts) sets q =
    let more : List ℕ = cut_cautions rules c.before c.line in
    in_trans (get_or sets q 0) (get_or (both sets more) q 0) _
    (subst (λ (x : ℕ). get_or sets q 0 ⊆ x) (sym (get_both sets more q)) (in_left (get_or sets q 0) (get_or more q 0)))
    (with_cuts-keeps rules cuts (both sets more) q)

with_cuts-has : (rules : Rules) (cuts : List Cut) (sets : List ℕ) (n : ℕ) (c : Cut) → get cuts n ≡ some c → (p : ℕ)
    → get_or (cut_cautions rules c.before c.line) p 0 ⊆ get_or (with_cuts rules cuts sets) p 0
unfolding with_cuts
with_cuts-has rules [] sets n c e p = absurd (none-some e)
with_cuts-has rules (d ∷ cuts) sets zero c e p =
    let more : List ℕ = cut_cautions rules d.before d.line in
    subst (λ (x : Cut). get_or (cut_cautions rules x.before x.line) p 0 ⊆ get_or (with_cuts rules cuts (both sets more)) p 0) (some_inj e)
    (in_trans (get_or more p 0) (get_or (both sets more) p 0) _
    (subst (λ (x : ℕ). get_or more p 0 ⊆ x) (sym (get_both sets more p)) (in_right (get_or sets p 0) (get_or more p 0)))
    (with_cuts-keeps rules cuts (both sets more) p))
with_cuts-has rules (d ∷ cuts) sets (suc n) c e p =
    with_cuts-has rules cuts (both sets (cut_cautions rules d.before d.line)) n c e p

one_of : (P : Cut → Type 0) (cuts : List Cut) (n : ℕ) (c : Cut) → All P cuts → get cuts n ≡ some c → P c
one_of P [] n c h e = absurd (none-some e)
one_of P (d ∷ cuts) zero c h e = subst P (some_inj e) h.0
one_of P (d ∷ cuts) (suc n) c h e = one_of P cuts n c h.1 e

-- NO CAUTION IS LOST
pub nothing_lost : (rules : Rules) (input : Listing) → NothingLost rules input
unfolding finished_cautions
nothing_lost rules input =
    let all : List Attempt = attempts_of (run rules input) in
    let after : Listing = uncut rules input in
    let sets : List ℕ = map (joined rules input all) (places after) in
    record {
      of_joins = λ before more a e removed p h.
          (let here : Listing = after_attempts input before in
          let r = comes_somewhere (along_rest before (subst (λ (xs : List Attempt). Along input xs after) e (run_along rules input))) p h in
          let q : ℕ = r.0 in
          let on_line : get_or (join_cautions rules here a) p 0 ⊆ joined rules input all q =
          subst (λ (xs : List Attempt). get_or (join_cautions rules here a) p 0 ⊆ joined rules input xs q) (sym e)
          (in_trans (get_or (join_cautions rules here a) p 0) (joined rules here (a ∷ more) q) _ (joined_own rules here a more p q removed r.2)
          (joined_later rules input before (a ∷ more) q)) in
          let long = uncut_length rules input in (
            q,
            omega (arith, r.1, long),
            in_trans (get_or (join_cautions rules here a) p 0) (get_or sets q 0) _
                (subst (λ (x : ℕ). get_or (join_cautions rules here a) p 0 ⊆ x) (sym (by_place_at (joined rules input all) after q r.1)) on_line)
                (with_cuts-keeps rules (cuts_of rules input) sets q),
          ));
      of_cuts = λ n c e p h.
          (let same = one_of (λ (c : Cut). length c.before ≡ length after) (cuts_of rules input) n c
          (cuts_long rules (labels_from 0 after) (length after) 0 after) e in
          let long = uncut_length rules input in
          (p, omega (arith, h, same, long), with_cuts-has rules (cuts_of rules input) sets n c e p));
    }

-- ---- where no step succeeds

idle_along : {lines after : Listing} {attempts : List Attempt} → Along lines attempts after → changed attempts ≡ false → after ≡ lines
unfolding changed ◌or◌
idle_along rest e = refl
idle_along (stays p) e = idle_along p e
idle_along (joins h f j p) e = absurd (true-false refl e)

otherwise : (b : Bool) (x y : ℕ) → b ≡ false → y ≡ 0 → (when b then x else y) ≡ 0
unfolding when◌then◌else◌
otherwise true x y e h = absurd (true-false refl e)
otherwise false x y e h = h

idle_joined : (rules : Rules) (lines : Listing) (attempts : List Attempt) → changed attempts ≡ false → (q : ℕ) → joined rules lines attempts q ≡ 0
unfolding changed joined ◌or◌
idle_joined rules lines [] e q = refl
idle_joined rules lines (a ∷ more) e q =
    let b : (a.removed ≡ false) × (changed more ≡ false) = neither {a = a.removed} {b = changed more} e in
    otherwise a.removed _ (joined rules a.left more q) b.0 (idle_joined rules a.left more b.1 q)

no_first {ℓ} : {A : Type ℓ} {x : A} {xs : List A} → x ∷ xs ≡ [] → ⊥
no_first e = let z : ◌≡◌ {A = ℕ} 0 1 = cc in omega arith

neither_made : (b : Bool) (l : Listing) (ls ms : List Listing) (c : Cut) (cs ds : List Cut) → (when b then l ∷ ls else ms) ≡ [] → (ms ≡ [] → ds ≡ [])
    → (when b then c ∷ cs else ds) ≡ []
unfolding when◌then◌else◌
neither_made true l ls ms c cs ds e h = absurd (no_first e)
neither_made false l ls ms c cs ds e h = h e

no-cuts : (rules : Rules) (labels : Labels) (n i : ℕ) (lines : Listing) → cuts_from rules labels n i lines ≡ [] → cuts_made rules labels n i lines ≡ []
unfolding cuts_from cuts_made
no-cuts rules labels zero i lines e = refl
no-cuts rules labels (suc n) i lines e =
    neither_made (dead_result rules labels lines i) _ _ (cuts_from rules labels n (suc i) lines) _ _ (cuts_made rules labels n (suc i) lines) e
    (λ f. no-cuts rules labels n (suc i) lines f)

all_zero : (f : ℕ → ℕ) → ((q : ℕ) → f q ≡ 0) → (i : ℕ) (lines : Listing) → map f (places_from i lines) ≡ none_yet lines
unfolding places_from
all_zero f h i [] = refl
all_zero f h i (l ∷ lines) = λ k. h i k ∷ all_zero f h (suc i) lines k

-- A LISTING OF WHICH NO STEP SUCCEEDS HAS NO CAUTION
pub quiet : (rules : Rules) (input : Listing) → Quiet rules input
unfolding finished_cautions with_cuts run drop_dead_results
quiet rules input idle uncut_only =
    let all : List Attempt = attempts_of (run rules input) in
    let after : Listing = uncut rules input in
    let same : after ≡ input = idle_along (run_along rules input) idle in
    let none_made : cuts_of rules input ≡ [] = no-cuts rules (labels_from 0 after) (length after) 0 after uncut_only in
    ap (λ (cs : List Cut). with_cuts rules cs (map (joined rules input all) (places after))) none_made
    ∙ all_zero (joined rules input all) (idle_joined rules input all idle) 0 after
    ∙ ap none_yet same
