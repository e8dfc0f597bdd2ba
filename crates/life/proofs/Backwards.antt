-- Searches from the end back, by `rposition` and by `rev().find(..)`: that the closure may be called at each item, and what they answer.
-- Assumes nothing.
use Rattle.std.proofs.Common.{◌≡◌, ℕ, zero, suc, ◌+◌, ◌-◌, ◌≤◌, ◌<◌, Bool, true, false, List, [], ◌∷◌, ◌++◌, map, length, take, get_or, reverse, Some, None, refl, sym, ap, ◌∙◌}
use Rattle.std.proofs.Common.{Bor, Iter, subst, arith, find, IsSomeAnd, MatchOption, option_map}
use Rattle.std.proofs.Common as std
use native.Mathlib.Numerals.{add-one}
use mathlib.Core.List.{reverse-cons}
use denote.Param.Members.{Mut}
use Rattle.std.specs.Fn.{Called, CalledAt}
use Rattle.std.specs.Iterator.{CallableAtEachTurn, FindsItem, FindsPositionBack}
use Rattle.std.specs.Iterator.Adapters.{copied_source, copied_steps}
use Rattle.std.specs.Slice.Iter.{iter_rest, iter_steps_back}
use Rattle.std.specs.declared.iter.Copied.{Copied}
use Rattle.std.proofs.lemmas.Iterator.{YieldsList}
use Rattle.std.proofs.lemmas.Iterator.Adapters.{serves_from_places}
use Rattle.std.proofs.lemmas.Iterator.Consumers.{YieldsList-from_copied, YieldsList-from_shown}
use Rattle.std.proofs.lemmas.Iterator.Search.{find_from_yields_List, position_from_yields_List}
use Rattle.std.proofs.lemmas.List.{get_or-reverse, get_or_read, length-reverse, reverse-append, reverse-reverse, take_all}
use Rattle.std.proofs.Math.Option.{Option, none, some}
use lib.Seq.{take-suc}
use Rattle.reference.specs.Control.{when◌then◌else◌, let_some◌else◌then◌}
use Rattle.reference.specs.Lists as lists
use Rattle.reference.specs.Lists.{last_position}
use Rattle.reference.specs.Text.{Text, ◌≟◌}
use Rattle.reference.specs.Life.{lookup}
use Rattle.reference.specs.Options.{option_of}
use Rattle.laws.proofs.Scans.{if-true, if-false}
use Rattle.laws.proofs.Std.{find-std, position-std}
use Rattle.joining.specs.Places.{label_at, labels_at, Labelled}
use Rattle.joining.proofs.Labels.{lookup_hit, lookup_miss, lookup_end}
use Rattle.lines.specs.Words.{text_of}
use Rattle.lines.specs.Lines.{part_of, bare_listing, Lined, Listed}
use Rattle.life.proofs.Jumping.{place_inside, place_long, name_is}

-- ---- the last that passes

-- the place of what stands at a place of the reversed list: n are all
abbrev back : ℕ → Option ℕ → Option ℕ
back n o = let_some o else none then λ i. some (n - 1 - i)

module _ {ℓ} {A : Type ℓ} (p : A → Bool) where
  last_snoc : (xs : List A) (x : A) → last_position p (xs ++ (x ∷ [])) ≡ (when p x then some (length xs) else last_position p xs)
  unfolding let_some◌else◌then◌ when◌then◌else◌
  last_snoc [] x = refl
  last_snoc (y ∷ ys) x = rw (last_snoc ys x) (go (p x))
    where
      here : Option ℕ
      here = when p y then some 0 else none

      go : (b : Bool) → (let_some (when b then some (length ys) else last_position p ys) else here then λ i. some (suc i))
          ≡ (when b then some (suc (length ys)) else (let_some (last_position p ys) else here then λ i. some (suc i)))
      go true = refl
      go false = refl

module _ {A : Type 0} (p : A → Bool) where
  last_back : (ys : List A) → last_position p (reverse ys) ≡ back (length ys) (lists.position p ys)
  unfolding when◌then◌else◌ let_some◌else◌then◌
  last_back [] = refl
  last_back (y ∷ ys) =
      ap (last_position p) (reverse-cons y ys)
      ∙ last_snoc p (reverse ys) y
      ∙ rw (last_back ys, length-reverse ys) (go (p y) (lists.position p ys))
    where
      go : (b : Bool) (o : Option ℕ)
          → (when b then some (length ys) else back (length ys) o) ≡ back (suc (length ys)) (when b then some 0 else (let_some o else none then λ i. some (suc i)))
      go true o = ap some (omega arith)
      go false none = refl
      go false (some i) = ap some (omega arith)

  last-of : (xs : List A) → last_position p xs ≡ back (length xs) (lists.position p (reverse xs))
  last-of xs = ap (last_position p) (sym (reverse-reverse xs)) ∙ last_back (reverse xs) ∙ rw length-reverse refl

last-map : {A B : Type 0} (p : B → Bool) (f : A → B) (xs : List A) → last_position p (map f xs) ≡ last_position (λ x. p (f x)) xs
last-map p f [] = refl
last-map p f (x ∷ xs) = rw (last-map p f xs) refl

-- the items of a slice from its end back
from-back : {A : Type 0} {s : Iter A} (xs : List A) → iter_rest s ≡ xs → YieldsList iter_steps_back (λ y. y.now) s (reverse xs)
from-back {A} {s} xs e = rw (sym e)
    (YieldsList-from_shown iter_steps_back (λ y. y.now) (λ u. reverse (iter_rest u)) (λ u t p. length-reverse _ ∙ p.0)
    (λ u x t p. ap reverse p ∙ reverse-append (iter_rest t) (x.now ∷ [])) s)

-- the lines of a listing
pub serves_lines_back : {tape area : Text} {tokens lines : List ℕ} → Listed tape area tokens lines
    → {s : Iter ℕ} {F : Type 0} {R : F → Bor ℕ → F → Type 0} {Q : F → Bor ℕ → Type 0} {f : F} → iter_rest s ≡ lines
    → ((x : Bor ℕ) (q : F) → R f x q → q ≡ f) → ((x : Bor ℕ) → Lined tape area tokens x.now → Q f x) → CallableAtEachTurn iter_steps_back R Q s f
serves_lines_back {lines = lines} h e same calls =
    serves_from_places (from-back lines e) same
    (λ x k b i.
    let l : k < length lines = rw length-reverse at b in
    let m : length lines - 1 - k < length lines = omega (arith, l) in
    calls x (rw (get_or_read lines _ x.now m (i ∙ get_or-reverse lines k x.now l) 0) (h.at _ m)))

-- what `rposition` found among the items, from the end back, and the place that it answers: the first found is the last
module _ (r : std.Option ℕ) (n m : ℕ) {X : Type 0} (Z : X → Type 0) where
  forward : (o : std.Option X) → MatchOption o (r ≡ None) (λ x. IsSomeAnd r (λ i. i + 1 + m ≡ n) × Z x)
      → (q : std.Option ℕ) × MatchOption o (q ≡ None) (λ x. (q ≡ Some m) × Z x) × (option_of r ≡ back n (option_of q))
  unfolding let_some◌else◌then◌
  forward None c = (None, refl, rw c refl)
  forward (Some x) c = (Some m, (refl, c.1), at r c.0)
    where
      at : (r : std.Option ℕ) → IsSomeAnd r (λ i. i + 1 + m ≡ n) → option_of r ≡ some (n - 1 - m)
      at None e = absurd e
      at (Some i) e = ap some (omega (arith, e))

-- p is the test, and f what a word means
module _ {A : Type 0} (p : A → Bool) (f : ℕ → A) (ws : List ℕ) where
  pub last_words : {F : Type 0} {g : Mut F (Bor ℕ × Unit {0}) Bool} {s : Iter ℕ} (u : Iter ℕ) (h : F) {n : ℕ} (r : std.Option ℕ)
      → FindsPositionBack iter_steps_back g s h n r u
      → n ≡ length ws → iter_rest s ≡ ws → ((x : Bor ℕ) (b : Bool) (q : F) → Called g h (x, tt) b q → (q ≡ h) × (b ≡ p (f x.now)))
      → option_of r ≡ last_position p (map f ws)
  last_words u h {n} r d l e same =
      let test : ℕ → Bool = λ w. p (f w) in
      let k = forward r n (length d.0) _ d.1 d.5 in
      let first : option_of k.0 ≡ lists.position test (reverse ws) =
      ap option_of (position_from_yields_List test u h k.0 (d.0, d.1, d.2, d.3, d.4, k.1) (from-back ws e) same) ∙ position-std test (reverse ws) in
      k.2 ∙ rw (first, l) (sym (last-of test ws)) ∙ sym (last-map p f ws)

-- ---- a label's name

module _ (tape area : Text) (tokens lines places : List ℕ) (ok : Labelled (bare_listing tape area tokens lines) places) where
  -- the places are taken from the last back
  pub serves_labels : {S : Type 0} {steps : S → std.Option (Bor ℕ) → S → Type 0} {s : Copied S} {F : Type 0} {R : F → ℕ → F → Type 0} {Q : F → ℕ → Type 0} {f : F}
      → YieldsList steps (λ y. y.now) (copied_source s) (reverse places)
      → ((x : ℕ) (q : F) → R f x q → q ≡ f) → ((x : ℕ) → x < length lines → 0 < length (part_of tokens (get_or lines x 0)) → Q f x)
      → CallableAtEachTurn (copied_steps steps) R Q s f
  serves_labels road same calls =
      serves_from_places (YieldsList-from_copied road) same
      (λ x k b i.
      let h : k < length places = rw length-reverse at b in
      let m : length places - 1 - k < length places = omega (arith, h) in
      let is : x ≡ get_or places (length places - 1 - k) 0 = get_or_read places _ x m (i ∙ get_or-reverse places k x h) 0 in
      calls x (place_inside tape area tokens lines places ok _ m is) (place_long tape area tokens lines places ok _ m is))

  -- whether the label at this place has the name
  abbrev pub is_named : Text → ℕ → Bool
  is_named name p = text_of tape area (get_or (part_of tokens (get_or lines p 0)) 0 0) ≟ name

  named_back : (name : Text) (n : ℕ) → n ≤ length places
      → lookup (labels_at (bare_listing tape area tokens lines) (take n places)) name ≡ lists.find (is_named name) (reverse (take n places))
  named_back name zero h = lookup_end (bare_listing tape area tokens lines) places name
  named_back name (suc n) h =
      by (named_back name n (omega arith)) (is_named name (get_or places n 0)) refl
      ∙ ap (lists.find (is_named name)) (sym (ap reverse (take-suc places n 0 (omega arith)) ∙ reverse-append (take n places) (get_or places n 0 ∷ [])))
    where
      is : {b : Bool} → is_named name (get_or places n 0) ≡ b → ((label_at (bare_listing tape area tokens lines) (get_or places n 0)).name ≟ name) ≡ b
      is e = rw (name_is tape area tokens lines places ok n (omega arith) refl) e

      by : lookup (labels_at (bare_listing tape area tokens lines) (take n places)) name ≡ lists.find (is_named name) (reverse (take n places))
          → (b : Bool) → is_named name (get_or places n 0) ≡ b
          → lookup (labels_at (bare_listing tape area tokens lines) (take (suc n) places)) name
          ≡ (when is_named name (get_or places n 0) then some (get_or places n 0) else lists.find (is_named name) (reverse (take n places)))
      by rest true e = rw (← add-one n) (lookup_hit (bare_listing tape area tokens lines) places name n (omega arith) (is e)) ∙ sym (if-true _ _ e)
      by rest false e =
          rw (← add-one n) (lookup_miss (bare_listing tape area tokens lines) places name n (omega arith) (is e)) ∙ rest ∙ sym (if-false _ _ e)

  pub label_found : {S : Type 0} {steps : S → std.Option (Bor ℕ) → S → Type 0} (name : Text) {F : Type 0} {g : Mut F (Bor ℕ × Unit {0}) Bool} {s : Copied S} (u : Copied S)
      (h : F) (r : std.Option ℕ)
      → FindsItem (copied_steps steps) g s h r u
      → YieldsList steps (λ y. y.now) (copied_source s) (reverse places) → ((x : ℕ) (b : Bool) (q : F) → CalledAt g h x b q → (q ≡ h) × (b ≡ is_named name x))
      → option_of r ≡ lookup (labels_at (bare_listing tape area tokens lines) places) name
  label_found name u h r d road same =
      own r
      ∙ ap option_of (find_from_yields_List (is_named name) u h r d (YieldsList-from_copied road) same)
      ∙ find-std (is_named name) (reverse places)
      ∙ sym (subst (λ (l : List ℕ). lookup (labels_at (bare_listing tape area tokens lines) l) name ≡ lists.find (is_named name) (reverse l))
      (take_all (length places) places (omega arith)) (named_back name (length places) (omega arith)))
    where
      own : (r : std.Option ℕ) → option_of r ≡ option_of (option_map (λ x. x) r)
      own None = refl
      own (Some x) = refl
