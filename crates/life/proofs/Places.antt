-- The places of label lines in a lent array: gathered line by line, and shifted in place. Assumes nothing.
use Prim.Native.Nat.{ℕ, zero, suc, pred, ◌+◌, ◌-◌, ◌≤◌, ◌<◌}
use native.Mathlib.Numerals.{add-one}
use native.Mathlib.Omega.{arith}
use mathlib.Core.Path.{◌≡◌, refl, sym, ap, ◌∙◌}
use mathlib.Core.Bool.{Bool, true, false}
use mathlib.Core.List.{List, [], ◌∷◌, ◌++◌, map, map-append, append-nil}
use lib.ListN.{length, get_or, set, take, drop, length-map, length-append}
use lib.Seq.{take-suc, drop-cons, length-take-le, set_at, get_or_at, append_snoc}
use borrow.Author.Tests.{lt-ltb, le-ltb}
use Rattle.reference.specs.Control.{when◌then◌else◌}
use Rattle.reference.specs.Text.{Text}
use Rattle.reference.specs.Shapes.{label_tokens}
use Rattle.laws.proofs.Scans.{if-true, if-false}
use Rattle.joining.specs.Places.{label_places, shift_place}
use Rattle.joining.proofs.Labels.{places_turn}
use Rattle.lines.specs.Words.{tokens_of}
use Rattle.lines.specs.Lines.{part_of, bare_in, bare_listing}
use Rattle.lines.proofs.words.Each.{map-take}
use Rattle.lines.proofs.words.Lines.{bare_at}
use Rattle.life.specs.Labels.{Gathered}

-- ---- gathered

module _ (tape area : Text) (tokens lines : List ℕ) where
  -- the places among the first k lines
  abbrev pub found_in : ℕ → List ℕ
  found_in k = label_places 0 (bare_listing tape area tokens (take k lines))

  found-next : (k : ℕ) → k < length lines → {x : Bool} → x ≡ label_tokens (tokens_of tape area (part_of tokens (get_or lines k 0)))
      → found_in (k + 1) ≡ found_in k ++ (when x then k ∷ [] else [])
  found-next k h {x} ex =
      ap (label_places 0) (map-take (bare_in tape area tokens) (k + 1) lines)
      ∙ places_turn (bare_listing tape area tokens lines) k (rw (length-map lines (bare_in tape area tokens)) h)
      ∙ rw (← map-take (bare_in tape area tokens) k lines, bare_at tape area tokens [] lines k h, ← ex)

  pub gathered_begin : (before : List ℕ) → Gathered (found_in 0) before before 0
  unfolding label_places
  gathered_begin before = record { size = refl; is = refl }

  module _ {before after : List ℕ} (n k : ℕ) (g : Gathered (found_in k) before after n) (h : k < length lines) {x : Bool} {ws : List ℕ}
      (ew : ws ≡ part_of tokens (get_or lines k 0)) (ex : x ≡ label_tokens (tokens_of tape area ws)) where
    next : found_in (k + 1) ≡ found_in k ++ (when x then k ∷ [] else [])
    next = found-next k h (rw ew at ex)

    pub gathered_hit : x ≡ true → n < length before → Gathered (found_in (k + 1)) before (set after n k) (n + 1)
    gathered_hit t b =
        let e : found_in (k + 1) ≡ found_in k ++ (k ∷ []) = next ∙ ap (λ (r : List ℕ). found_in k ++ r) (if-true _ _ t) in
        record {
          size = rw (e, length-append) (omega (arith, g.size));
          is =
              rw (e, g.is, drop-cons before n 0 b, add-one n)
              (set_at (found_in k) _ _ k n (sym g.size) ∙ sym (append_snoc (found_in k) k (drop (suc n) before)));
        }

    pub gathered_miss : x ≡ false → Gathered (found_in (k + 1)) before after n
    gathered_miss t =
        let e : found_in (k + 1) ≡ found_in k = next ∙ ap (λ (r : List ℕ). found_in k ++ r) (if-false _ _ t) ∙ append-nil (found_in k) in
        rw e g

-- ---- changed in place, one after the other

module _ (f : ℕ → ℕ) (before : List ℕ) (k : ℕ) {now : List ℕ} (inv : now ≡ map f (take k before) ++ drop k before) where
  module _ (h : k < length before) where
    split : now ≡ map f (take k before) ++ get_or before k 0 ∷ drop (suc k) before
    split = inv ∙ rw (drop-cons before k 0 h)

    size : length (map f (take k before)) ≡ k
    size = length-map (take k before) f ∙ length-take-le k before (omega arith)

    pub mapped_next : {v : ℕ} → v ≡ f (get_or now k 0) → set now k v ≡ map f (take (k + 1) before) ++ drop (k + 1) before
    mapped_next {v} e =
        let same : get_or now k 0 ≡ get_or before k 0 = rw split (get_or_at (map f (take k before)) _ _ 0 k size) in
        rw (split, e, same, add-one k, take-suc before k 0 h, map-append)
        (set_at (map f (take k before)) _ _ _ k size ∙ sym (append_snoc (map f (take k before)) (f (get_or before k 0)) (drop (suc k) before)))

-- ---- a place when a line is gone

pub shifted_up : {i p : ℕ} → i < p → p - 1 ≡ shift_place i p
shifted_up {i} {p} h = pred_is p ∙ sym (if-true _ _ (lt-ltb i p h))
  where
    pred_is : (n : ℕ) → n - 1 ≡ pred n
    pred_is zero = refl
    pred_is (suc n) = omega arith

pub shifted_not : {i p : ℕ} → p ≤ i → p ≡ shift_place i p
shifted_not {i} {p} h = sym (if-false _ _ (le-ltb i p h))
