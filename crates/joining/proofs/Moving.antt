-- What an attempt leaves of the lines that it does not change, the label lines above all: a round's labels stay labels, at their shifted places.
-- The same for a cut. Assumes nothing.
use Prim.Native.Nat.{ℕ, zero, suc, pred, ◌≤◌, ◌<◌}
use native.Mathlib.Omega.{arith}
use native.Mathlib.Nat.{zero-add, not-suc-le-zero, le_of_suc-le-suc}
use native.Mathlib.Decide.{dec_le}
use mathlib.Core.Path.{◌≡◌, refl, sym, ap, ◌∙◌, subst}
use mathlib.Core.Logic.{by_cases}
use mathlib.Core.Bool.{Bool, true, false, false≢true}
use mathlib.Core.List.{List, [], ◌∷◌, map, map-id}
use mathlib.Core.Option.{none, some}
use lib.Dec.{ltb, eqb}
use lib.ListN.{length, get_or, length-map}
use borrow.Author.Tests.{lt-ltb, le-ltb, lt-leb}
use Rattle.reference.specs.Control.{when◌then◌else◌, let_some◌else◌then◌}
use Rattle.reference.specs.Lists.{remove, get}
use Rattle.reference.specs.Text.{Text}
use Rattle.reference.specs.Listing.{Token, Line, Listing, blank, ◌at◌}
use Rattle.reference.specs.Rules.{Rules, volatile}
use Rattle.reference.specs.Shapes.{is_label, label_tokens, calls_here, call_in}
use Rattle.reference.specs.Life.{Labels}
use Rattle.reference.specs.Join.{rewrite_use, text_or_empty, try_at}
use Rattle.reference.specs.Run.{shift, dead_result}
use Rattle.reference.proofs.Cases.{true-false, both}
use Rattle.reference.proofs.Shapes.{assigns, assigning-plain}
use Rattle.reference.proofs.Lines.{at_modify}
use Rattle.laws.proofs.Scans.{if-true, if-false, and_false}
use Rattle.joining.specs.Places.{labels_at, Labelled, shift_place, shift_places}
use Rattle.joining.specs.Plan.{Plan, map_from, right_side_of, acted_line, act}
use Rattle.joining.specs.Rounds.{cut_at}
use Rattle.joining.proofs.Indexed.{get_d_map, getD_map_from}
use Rattle.joining.proofs.Acting.{changes-later, line_kept, early}
use Rattle.joining.proofs.Deciding.{defined_by, tried}
use Rattle.joining.proofs.Planned.{Planned, planned}
use Rattle.joining.proofs.Labels.{label_inside}

-- ---- the line at a shifted place

module _ {ℓ} {A : Type ℓ} (d : A) where
  at_below : (i : ℕ) (xs : List A) (q : ℕ) → q < i → get_or (remove i xs) q d ≡ get_or xs q d
  at_below i [] q h = refl
  at_below zero (x ∷ xs) q h = absurd (not-suc-le-zero h)
  at_below (suc i) (x ∷ xs) zero h = refl
  at_below (suc i) (x ∷ xs) (suc q) h = at_below i xs q (le_of_suc-le-suc h)

  at_above : (i : ℕ) (xs : List A) (q : ℕ) → i ≤ q → get_or (remove i xs) q d ≡ get_or xs (suc q) d
  at_above i [] q h = refl
  at_above zero (x ∷ xs) q h = refl
  at_above (suc i) (x ∷ xs) zero h = absurd (not-suc-le-zero h)
  at_above (suc i) (x ∷ xs) (suc q) h = at_above i xs q (le_of_suc-le-suc h)

  at_shifted : (i : ℕ) (xs : List A) (q : ℕ) → (q ≡ i → ⊥) → get_or (remove i xs) (shift_place i q) d ≡ get_or xs q d
  at_shifted i xs q n =
      by_cases (dec_le (suc i) q)
      (λ h.
      (let one : suc (pred q) ≡ q = omega arith in
      rw (if-true (pred q) q (lt-ltb i q h)) (at_above i xs (pred q) (omega arith) ∙ ap (λ (k : ℕ). get_or xs k d) one)))
      (λ h. rw (if-false (pred q) q (le-ltb i q (omega arith))) (at_below i xs q (omega (arith, n))))

-- the same labels at other places
labels_move : (lines lines' : Listing) (f : ℕ → ℕ) (places : List ℕ)
    → ((k : ℕ) → k < length places → lines' at f (get_or places k 0) ≡ lines at (get_or places k 0))
    → map (λ l. record { name = l.name; place = f l.place }) (labels_at lines places) ≡ labels_at lines' (map f places)
labels_move lines lines' f [] same = refl
labels_move lines lines' f (p ∷ ps) same =
    let here : lines at p ≡ lines' at f p = sym (same 0 (omega arith)) in
    let more = labels_move lines lines' f ps (λ k h. same (suc k) (omega arith)) in
    λ t. record { name = text_or_empty (get (here t).tokens 0); place = f p } ∷ more t

-- ---- a line gone

shift_is : (i : ℕ) (labels : Labels) → shift i labels ≡ map (λ l. record { name = l.name; place = shift_place i l.place }) labels
unfolding shift when◌then◌else◌
shift_is i [] = refl
shift_is i (l ∷ ls) = go (ltb i l.place) (shift_is i ls)
  where
    go : (b : Bool) → shift i ls ≡ map (λ l. record { name = l.name; place = shift_place i l.place }) ls
        → (when b then record { name = l.name; place = pred l.place } else l) ∷ shift i ls
        ≡ record { name = l.name; place = when b then pred l.place else l.place } ∷ map (λ l. record { name = l.name; place = shift_place i l.place }) ls
    go true ih = ap {B = Labels} (λ r. record { name = l.name; place = pred l.place } ∷ r) ih
    go false ih = ap {B = Labels} (λ r. l ∷ r) ih

module _ {rules : Rules} {lines : Listing} {i : ℕ} {p : Plan} (h : Planned rules lines i p) where
  -- a label is no definition
  label-other : (q : ℕ) → is_label (lines at q) ≡ true → q ≡ i → ⊥
  label-other q e s =
      let d = defined_by (lines at i).tokens h.def h.known in
      true-false (subst (λ (k : ℕ). is_label (lines at k) ≡ true) s e) (assigning-plain (assigns (lines at i).tokens d.to d.assignment_is))

  label-stands : (q : ℕ) → is_label (lines at q) ≡ true → acted_line rules i p q (lines at q) ≡ lines at q
  label-stands q e =
      by_cases (dec_le (suc i) q)
      (λ lt. line_kept (volatile rules) i p rewritten q (lines at q)
      (changes-later (volatile rules) i p q (lines at q) lt
      ∙ and_false _ (by_cases (dec_le q p.last) (λ le. absurd (true-false e (h.reached.1 q lt le))) (λ gt. lt-leb q p.last (omega arith)))))
      (λ le. early (volatile rules) i p rewritten q (lines at q) (omega arith))
    where
      rewritten : Line → Line
      rewritten = rewrite_use rules.edition p.fam (right_side_of p)

  pub act-label : (q : ℕ) → is_label (lines at q) ≡ true → act rules lines i p at (shift_place i q) ≡ lines at q
  unfolding act
  act-label q e =
      at_shifted blank i (map_from (acted_line rules i p) 0 lines) q (label-other q e)
      ∙ getD_map_from (acted_line rules i p) 0 lines q blank blank (label_inside lines q e)
      ∙ rw (zero-add q) (label-stands q e)

module _ (rules : Rules) (lines : Listing) (i : ℕ) (labels : Labels) (addressed : List Text) {lines' : Listing}
    (e : try_at rules lines i labels addressed ≡ some lines') (places : List ℕ) (ok : Labelled lines places) where
  left : (q : ℕ) → is_label (lines at q) ≡ true → lines' at (shift_place i q) ≡ lines at q
  left q l =
      let t = tried rules lines i labels addressed e in
      rw (← t.2) (act-label (planned rules lines i labels t.0 addressed t.1) q l)

  pub shift_labels : shift i (labels_at lines places) ≡ labels_at lines' (shift_places i places)
  shift_labels = shift_is i (labels_at lines places) ∙ labels_move lines lines' (shift_place i) places (λ k h. left _ (ok k h))

  pub shift-labelled : Labelled lines' (shift_places i places)
  shift-labelled k h =
      let lt : k < length places = rw (← (length-map places (shift_place i))) h in
      ap (λ (q : ℕ). is_label (lines' at q)) (get_d_map (shift_place i) places k 0 0 lt) ∙ ap is_label (left _ (ok k lt)) ∙ ok k lt

-- ---- a cut

-- the line of a cut is no label
cut-plain : (ts : List Token) → (let_some (call_in ts) else false then λ c. eqb c 2) ≡ true → label_tokens ts ≡ false
unfolding label_tokens call_in let_some◌else◌then◌ when◌then◌else◌
cut-plain [] e = refl
cut-plain (a ∷ []) e = refl
cut-plain (a ∷ b ∷ []) e = absurd (go (calls_here (a, b)) e)
  where
    go : (c : Bool) → (let_some (when c then some 0 else none) else false then λ c. eqb c 2) ≡ true → ⊥
    go true e = false≢true e
    go false e = false≢true e
cut-plain (a ∷ b ∷ c ∷ rest) e = refl

module _ (rules : Rules) (labels : Labels) (lines : Listing) (i : ℕ) (e : dead_result rules labels lines i ≡ true) (places : List ℕ) (ok : Labelled lines places) where
  kept : (q : ℕ) → is_label (lines at q) ≡ true → cut_at i lines at q ≡ lines at q
  unfolding dead_result
  kept q l = at_modify _ q i lines (λ s. true-false (subst (λ (k : ℕ). is_label (lines at k) ≡ true) s l) (cut-plain (lines at i).tokens (both e).0))

  pub cut_labels : labels_at (cut_at i lines) places ≡ labels_at lines places
  cut_labels =
      sym (sym (map-id (labels_at lines places))
      ∙ labels_move lines (cut_at i lines) (λ q. q) places (λ k h. kept _ (ok k h))
      ∙ ap (labels_at (cut_at i lines)) (map-id places))

  pub cut-labelled : Labelled (cut_at i lines) places
  cut-labelled k h = ap is_label (kept _ (ok k h)) ∙ ok k h
