-- A round's labels by their places: at its beginning, after a line is gone, after a cut, and the lookup of a name. Assumes nothing.
use Prim.Native.Nat.{ℕ, zero, suc, ◌+◌, ◌<◌}
use native.Mathlib.Omega.{arith}
use native.Mathlib.Nat.{zero-add, add-zero, add-suc, suc-add, not-suc-le-zero, le_of_suc-le-suc}
use native.Mathlib.Decide.{dec_le}
use native.Mathlib.Numerals.{add-one}
use mathlib.Core.Path.{◌≡◌, refl, sym, ap, ◌∙◌}
use mathlib.Core.Logic.{by_cases}
use mathlib.Core.Bool.{Bool, true, false, false≢true}
use mathlib.Core.List.{List, [], ◌∷◌, ◌++◌, map-append}
use mathlib.Core.Option.{Option, none, some}
use lib.ListN.{length, get_or, take, drop, get_or-eq_default}
use lib.Seq.{take-suc, length-take-le}
use Rattle.reference.specs.Control.{when◌then◌else◌, let_some◌else◌then◌}
use Rattle.reference.specs.Lists.{get}
use Rattle.reference.specs.Text.{Text, ◌≟◌}
use Rattle.reference.specs.Listing.{Line, Listing, blank, ◌at◌}
use Rattle.reference.specs.Shapes.{is_label, label_tokens}
use Rattle.reference.specs.Life.{Label, Labels, lookup}
use Rattle.reference.specs.Join.{text_or_empty}
use Rattle.reference.specs.Run.{labels_from}
use Rattle.reference.proofs.Cases.{by-if}
use Rattle.reference.proofs.Lines.{drop-step}
use Rattle.laws.proofs.Scans.{if-true, if-false}
use Rattle.joining.specs.Places.{label_places, label_at, labels_at, Labelled}

-- a label line stands inside the listing
pub label_inside : (lines : Listing) (p : ℕ) → is_label (lines at p) ≡ true → p < length lines
unfolding label_tokens
label_inside lines p e =
    by_cases (dec_le (suc p) (length lines)) (λ h. h)
    (λ h. absurd (false≢true (rw (get_or-eq_default lines blank {n = p} (omega arith)) at e)))

-- ---- the beginning of a round

module _ (lines : Listing) where
  labels_rest : (j : ℕ) (ls : Listing) → drop j lines ≡ ls → labels_from j ls ≡ labels_at lines (label_places j ls)
  unfolding labels_from label_places when◌then◌else◌
  labels_rest j [] e = refl
  labels_rest j (l ∷ ls) e =
      let d = drop-step j lines l ls e in
      go (is_label l) (ap (λ (x : Line). text_or_empty (get x.tokens 0)) (sym d.0)) (labels_rest (suc j) ls d.1)
    where
      go : (b : Bool) → text_or_empty (get l.tokens 0) ≡ text_or_empty (get (lines at j).tokens 0)
          → labels_from (suc j) ls ≡ labels_at lines (label_places (suc j) ls)
          → (when b then record { name = text_or_empty (get l.tokens 0); place = j } ∷ labels_from (suc j) ls else labels_from (suc j) ls)
          ≡ labels_at lines (when b then j ∷ label_places (suc j) ls else label_places (suc j) ls)
      go true same ih = λ i. record { name = same i; place = j } ∷ ih i
      go false same ih = ih

  labelled-rest : (j : ℕ) (ls : Listing) → drop j lines ≡ ls → Labelled lines (label_places j ls)
  unfolding label_places
  labelled-rest j [] e = λ k h. absurd (not-suc-le-zero h)
  labelled-rest j (l ∷ ls) e =
      let d = drop-step j lines l ls e in
      by-if (Labelled lines)
      (λ t k h. first (label_places (suc j) ls) (ap is_label d.0 ∙ t) (labelled-rest (suc j) ls d.1) k h)
      (λ t. labelled-rest (suc j) ls d.1)
    where
      first : (ps : List ℕ) → is_label (lines at j) ≡ true → Labelled lines ps → Labelled lines (j ∷ ps)
      first ps e more zero h = e
      first ps e more (suc k) h = more k (le_of_suc-le-suc h)

  pub labels_begin : labels_from 0 lines ≡ labels_at lines (label_places 0 lines)
  labels_begin = labels_rest 0 lines refl

  pub labelled_begin : Labelled lines (label_places 0 lines)
  labelled_begin = labelled-rest 0 lines refl

-- the places as a loop finds them, line after line
places_append : (i : ℕ) (xs ys : Listing) → label_places i (xs ++ ys) ≡ label_places i xs ++ label_places (i + length xs) ys
unfolding label_places when◌then◌else◌
places_append i [] ys = rw (add-zero i)
places_append i (x ∷ xs) ys = go (is_label x) (places_append (suc i) xs ys ∙ rw (add-suc i (length xs), suc-add i (length xs)))
  where
    go : (b : Bool) → label_places (suc i) (xs ++ ys) ≡ label_places (suc i) xs ++ label_places (i + suc (length xs)) ys
        → (when b then i ∷ label_places (suc i) (xs ++ ys) else label_places (suc i) (xs ++ ys))
        ≡ (when b then i ∷ label_places (suc i) xs else label_places (suc i) xs) ++ label_places (i + suc (length xs)) ys
    go true ih = ap {B = List ℕ} (λ r. i ∷ r) ih
    go false ih = ih

pub places_turn : (lines : Listing) (k : ℕ) → k < length lines
    → label_places 0 (take (k + 1) lines) ≡ label_places 0 (take k lines) ++ (when is_label (lines at k) then k ∷ [] else [])
unfolding label_places
places_turn lines k h =
    let size : length (take k lines) ≡ k = length-take-le k lines (omega arith) in
    rw (add-one k, take-suc lines k blank h) (places_append 0 (take k lines) ((lines at k) ∷ []) ∙ rw (size, zero-add k))

-- ---- the lookup of a name, from the last label back: of equal names the last counts

lookup-last : (ls : Labels) (l : Label) (name : Text)
    → lookup (ls ++ (l ∷ [])) name ≡ (when l.name ≟ name then some l.place else lookup ls name)
unfolding lookup let_some◌else◌then◌ when◌then◌else◌
lookup-last [] l name = refl
lookup-last (x ∷ xs) l name = rw (lookup-last xs l name) (go (l.name ≟ name))
  where
    here : Option ℕ
    here = when x.name ≟ name then some x.place else none

    go : (b : Bool) → (let_some (when b then some l.place else lookup xs name) else here then λ p. some p)
        ≡ (when b then some l.place else (let_some (lookup xs name) else here then λ p. some p))
    go true = refl
    go false = refl

module _ (lines : Listing) (places : List ℕ) (name : Text) where
  lookup_turn : (k : ℕ) → k < length places → lookup (labels_at lines (take (suc k) places)) name
      ≡ (when (label_at lines (get_or places k 0)).name ≟ name then some (get_or places k 0) else lookup (labels_at lines (take k places)) name)
  lookup_turn k h = rw (take-suc places k 0 h, map-append (label_at lines) (take k places) (get_or places k 0 ∷ []))
      (lookup-last (labels_at lines (take k places)) (label_at lines (get_or places k 0)) name)

  pub lookup_hit : (k : ℕ) → k < length places → ((label_at lines (get_or places k 0)).name ≟ name) ≡ true
      → lookup (labels_at lines (take (k + 1) places)) name ≡ some (get_or places k 0)
  lookup_hit k h e = rw (add-one k) (lookup_turn k h ∙ if-true _ _ e)

  pub lookup_miss : (k : ℕ) → k < length places → ((label_at lines (get_or places k 0)).name ≟ name) ≡ false
      → lookup (labels_at lines (take (k + 1) places)) name ≡ lookup (labels_at lines (take k places)) name
  lookup_miss k h e = rw (add-one k) (lookup_turn k h ∙ if-false _ _ e)

  pub lookup_end : lookup (labels_at lines (take 0 places)) name ≡ none
  unfolding lookup
  lookup_end = refl
