-- What a line reads beside a use, in two runs. Assumes nothing.
use Prim.Native.Nat.{ℕ, zero, suc, ◌+◌, ◌-◌, ◌≤◌, ◌<◌}
use native.Mathlib.Omega.{arith}
use native.Mathlib.Nat.{le_refl}
use native.Mathlib.Numerals.{add-one}
use mathlib.Core.Path.{◌≡◌, refl, sym, ap, ◌∙◌}
use mathlib.Core.Bool.{Bool, true, false}
use mathlib.Core.List.{List, [], ◌∷◌, ◌++◌, map, map-append, append-nil}
use mathlib.Core.Option.{Option, none, some}
use lib.Dec.{ltb}
use lib.ListN.{length, take, drop, get_or, length-take, length-map, length-append, get_or-append, get_or-map}
use lib.Seq.{take-nil, take_all, get_or-append-add}
use Rattle.std.specs.Prelude as std
use Rattle.std.specs.Prelude.{Some, None}
use Rattle.reference.specs.Options.{option_of}
use Rattle.reference.specs.Control.{◌or◌, when◌then◌else◌, let_some◌else◌then◌}
use Rattle.reference.specs.Lists.{any, find, position, remove}
use Rattle.reference.specs.Text.{Text, bytes}
use Rattle.reference.specs.Listing.{Token}
use Rattle.reference.specs.Shapes.{is_kw}
use Rattle.laws.proofs.Scans.{or_true, or_false, any_append}
use Rattle.cautions.specs.Texts.{holds, marks}
use Rattle.cautions.specs.Values.{only_written, rest, reads_world, widths_in, token_width}
use Rattle.lines.specs.Words.{text_of, token_of, tokens_of, Points, Holds}
use Rattle.lines.specs.declared.texts.Texts.{Texts}
use Rattle.lines.proofs.words.Each.{each-remove, map_at, map-take, map-drop}
use Rattle.lines.proofs.words.Tokens.{holds-take, holds-drop}
use Rattle.lines.proofs.shapes.Places.{find_at, find_none, found_is, found-not}
use Rattle.usefacts.specs.Reads.{reads_between, first_text, last_text}
use Rattle.usefacts.specs.Rest.{kept, words_of, RestOf}
use Rattle.usefacts.specs.declared.rest.Rest.{Rest}
use Rattle.usefacts.proofs.Reading.{between_append, whole_from}

-- ---- what is only written

module _ (tape area : Text) (ws : List ℕ) {r : std.Option ℕ} (e : option_of r ≡ position (λ t. ltb 0 (marks t)) (tokens_of tape area ws)) where
  pub unwritten : r ≡ None → false ≡ only_written (tokens_of tape area ws)
  unfolding only_written let_some◌else◌then◌
  unwritten h = rw (find_none (λ t. ltb 0 (marks t)) (tokens_of tape area ws) (found-not e h)) refl

  module _ {k : ℕ} (h : r ≡ Some k) where
    found : (k < length (tokens_of tape area ws)) × (find (λ t. ltb 0 (marks t)) (tokens_of tape area ws) ≡ some (get_or (tokens_of tape area ws) k (token_of tape area 0)))
    found = find_at (λ t. ltb 0 (marks t)) (tokens_of tape area ws) k (token_of tape area 0) (found_is e h)

    marked_inside : k < length ws
    marked_inside = let q = found.0 in omega (arith, q, length-map ws (token_of tape area))

    pub written_by : {b : Bool} {s : Text} → s ≡ get_or (map (text_of tape area) ws) k [] → b ≡ holds (bytes " = ") s → b ≡ only_written (tokens_of tape area ws)
    unfolding only_written let_some◌else◌then◌
    written_by es eb = rw (found.1, get_or-map (token_of tape area) ws k 0) (eb ∙ ap (holds (bytes " = ")) (es ∙ map_at (text_of tape area) ws k [] marked_inside))

pub ruleset writing = (unwritten, written_by)

-- ---- what stands in front of a `goto`

module _ (tape area : Text) (ws : List ℕ) {r : std.Option ℕ} (e : option_of r ≡ position (is_kw (bytes "goto")) (tokens_of tape area ws)) where
  pub kept_all : r ≡ None → length ws ≡ kept (tokens_of tape area ws)
  unfolding kept let_some◌else◌then◌
  kept_all h = rw (found-not e h) (sym (length-map ws (token_of tape area)))

  pub kept_some : {k : ℕ} → r ≡ Some k → k ≡ kept (tokens_of tape area ws)
  unfolding kept let_some◌else◌then◌
  kept_some h = rw (found_is e h) refl

  pub kept_inside : {k : ℕ} → r ≡ Some k → k ≤ length ws
  kept_inside {k} h =
      let q = find_at (is_kw (bytes "goto")) (tokens_of tape area ws) k (token_of tape area 0) (found_is e h) in
      omega (arith, q.0, length-map ws (token_of tape area))

pub ruleset keeping = (kept_all, kept_some, kept_inside)

-- ---- words left out

module _ {A : Type 0} where
  remove_past : (l : List A) (u : ℕ) → length l ≤ u → remove u l ≡ l
  remove_past [] u h = refl
  remove_past (x ∷ xs) zero h = absurd (omega arith)
  remove_past (x ∷ xs) (suc u) h = ap {B = List A} (λ r. x ∷ r) (remove_past xs u (omega arith))

  remove_at : (l : List A) (u n : ℕ) → u < n → take u l ++ take (n - suc u) (drop (suc u) l) ≡ remove u (take n l)
  remove_at [] u zero h = absurd (omega arith)
  remove_at [] zero (suc n) h = take-nil (suc n - 1)
  remove_at [] (suc u) (suc n) h = take-nil (suc n - suc (suc u))
  remove_at (x ∷ xs) u zero h = absurd (omega arith)
  remove_at (x ∷ xs) zero (suc n) h = ap (λ k. take k xs) (omega arith)
  remove_at (x ∷ xs) (suc u) (suc n) h =
      ap {B = List A} (λ r. x ∷ r) (ap (λ k. take u xs ++ take k (drop (suc u) xs)) (omega arith) ∙ remove_at xs u n (omega arith))

  drop_front : (a b : List A) → (length a ≡ 0 → ⊥) → drop 1 a ++ b ≡ drop 1 (a ++ b)
  drop_front [] b h = absurd (h refl)
  drop_front (x ∷ a) b h = refl

  drop_back : (a b : List A) → length a ≡ 0 → a ++ drop 1 b ≡ drop 1 (a ++ b)
  drop_back [] b h = refl
  drop_back (x ∷ a) b h = absurd (omega arith)

  drop_none : (l : List A) → length l ≡ 0 → l ≡ drop 1 l
  drop_none [] h = refl
  drop_none (x ∷ l) h = absurd (omega arith)

module _ (l : List ℕ) (u n : ℕ) where
  pub use_past : n ≤ u → take n l ++ take (n - n) (drop n l) ≡ remove u (take n l)
  use_past h =
      let z : n - n ≡ 0 = omega arith in
      rw z (append-nil (take n l) ∙ sym (remove_past (take n l) u (omega (arith, h, length-take n l))))

  pub use_inside : u < n → take u l ++ take (n - (u + 1)) (drop (u + 1) l) ≡ remove u (take n l)
  use_inside h = rw add-one (remove_at l u n h)

pub ruleset removing = (use_past, use_inside)

pub tail_none : (l : List ℕ) → length l ≡ 0 → l ≡ drop 1 l
tail_none l h = drop_none l h

pub ruleset tails = (tail_none)

module _ (a b : List ℕ) where
  pub dropped_back : length a ≡ 0 → {s : List ℕ} → s ≡ drop 1 b → a ++ s ≡ drop 1 (a ++ b)
  dropped_back h e = rw e (drop_back a b h)

  pub dropped_front : (length a ≡ 0 → ⊥) → {s : List ℕ} → s ≡ drop 1 a → s ++ b ≡ drop 1 (a ++ b)
  dropped_front h e = rw e (drop_front a b h)

pub ruleset dropping = (dropped_back, dropped_front)

-- ---- both runs

module _ {tape area : Text} (a b : List ℕ) (h : Holds tape area (a ++ b)) where
  holds_front : Holds tape area a
  holds_front = record {
    at = λ k l.
        rw (sym (get_or-append a b 0 k l)) (h.at k (omega (arith, l, length-append a b)));
  }

  holds_back : Holds tape area b
  holds_back = record {
    at = λ k l.
        rw (sym (get_or-append-add a b k 0)) (h.at (length a + k) (omega (arith, l, length-append a b)));
  }

module _ {A : Type 0} (f : ℕ → A) where
  map_remove : (i : ℕ) (xs : List ℕ) → map f (remove i xs) ≡ remove i (map f xs)
  map_remove i [] = refl
  map_remove zero (x ∷ xs) = refl
  map_remove (suc i) (x ∷ xs) = ap {B = List A} (λ r. f x ∷ r) (map_remove i xs)

kept_front : (ts : List Token) → take (kept ts) ts ≡ (let_some (position (is_kw (bytes "goto")) ts) else ts then λ g. take g ts)
unfolding kept let_some◌else◌then◌
kept_front ts = go (position (is_kw (bytes "goto")) ts)
  where
    go : (o : Option ℕ) → take (let_some o else length ts then λ g. g) ts ≡ (let_some o else ts then λ g. take g ts)
    go none = take_all (length ts) ts (le_refl _)
    go (some g) = refl

module _ (t : Texts) (ws : List ℕ) (u : ℕ) (h : Holds t.tape.now t.area.now ws) {n : ℕ} (en : n ≡ kept (tokens_of t.tape.now t.area.now ws)) where
  abbrev mean : ℕ → Token
  mean = token_of t.tape.now t.area.now

  held_rest : (d : ℕ) → Holds t.tape.now t.area.now (drop d (remove u (take n ws)))
  held_rest d = holds-drop (record { at = each-remove (Points t.tape.now t.area.now) u (take n ws) (holds-take h n).at }) d

  rest_as : (d : ℕ) (q : Rest) → d ≡ (when only_written (map mean ws) then 1 else 0) → words_of q ≡ drop d (remove u (take n ws)) → RestOf t ws u q
  unfolding rest
  rest_as d q ed e =
      let holds : Holds t.tape.now t.area.now (q.front.now ++ q.back.now) = rw e (held_rest d) in
      let cut : map mean (take n ws) ≡ (let_some (position (is_kw (bytes "goto")) (map mean ws)) else (map mean ws) then λ g. take g (map mean ws)) =
      map-take mean n ws ∙ ap (λ k. take k (map mean ws)) en ∙ kept_front (map mean ws) in
      record {
        held = record { front = holds_front q.front.now q.back.now holds; back = holds_back q.front.now q.back.now holds };
        is = sym (map-append mean q.front.now q.back.now) ∙ ap (map mean) e ∙ map-drop mean d (remove u (take n ws))
            ∙ ap (drop d) (map_remove mean u (take n ws)) ∙ ap (λ l. drop d (remove u l)) cut
            ∙ ap (λ k. drop k (remove u (let_some (position (is_kw (bytes "goto")) (map mean ws)) else (map mean ws) then λ g. take g (map mean ws)))) ed;
      }

  module _ (r : Rest) (er : words_of r ≡ remove u (take n ws)) {b : Bool} (eb : b ≡ only_written (tokens_of t.tape.now t.area.now ws)) where
    pub rest_read : b ≡ false → RestOf t ws u r
    unfolding when◌then◌else◌
    rest_read f = rest_as 0 r (rw (← eb, f) refl) er

    pub rest_written : b ≡ true → {q : Rest} → words_of q ≡ drop 1 (words_of r) → RestOf t ws u q
    unfolding when◌then◌else◌
    rest_written f {q} e = rest_as 1 q (rw (← eb, f) refl) (e ∙ ap (drop 1) er)

pub ruleset resting = (rest_read, rest_written)

-- ---- questions over both

module _ (tape area : Text) where
  first_at : (ws : List ℕ) → get_or (map (text_of tape area) ws) 0 [] ≡ first_text (tokens_of tape area ws) []
  first_at [] = refl
  first_at (w ∷ ws) = refl

  last_at : (before : Text) (w : ℕ) (ws : List ℕ) → text_of tape area (get_or (w ∷ ws) (length ws) 0) ≡ last_text before (tokens_of tape area (w ∷ ws))
  last_at before w [] = refl
  last_at before w (v ∷ ws) = last_at (text_of tape area w) v ws

  pub end_none : (ws : List ℕ) → length ws ≡ 0 → [] ≡ last_text [] (tokens_of tape area ws)
  end_none [] h = refl
  end_none (w ∷ ws) h = absurd (omega arith)

  pub end_some : (ws : List ℕ) → (length ws ≡ 0 → ⊥) → {s : Text} → s ≡ text_of tape area (get_or ws (length ws - 1) 0) → s ≡ last_text [] (tokens_of tape area ws)
  end_some [] h e = absurd (h refl)
  end_some (w ∷ ws) h e =
      let q : length (w ∷ ws) - 1 ≡ length ws = omega arith in
      e ∙ ap (λ k. text_of tape area (get_or (w ∷ ws) k 0)) q ∙ last_at [] w ws

pub ruleset ending = (end_none, end_some)

module _ {A : Type 0} (p : A → Bool) (a b : List A) {x : Bool} (ex : x ≡ any p a) where
  pub either_first : x ≡ true → true ≡ any p (a ++ b)
  either_first h = sym (any_append p a b ∙ or_true _ (sym ex ∙ h))

  pub either_second : x ≡ false → {y : Bool} → y ≡ any p b → y ≡ any p (a ++ b)
  either_second h e = e ∙ sym (any_append p a b ∙ or_false _ (sym ex ∙ h))

pub ruleset eithers = (either_first, either_second)

world_parts : (a b : List Token) → reads_world [] (a ++ b) ≡ (reads_between [] a (first_text b []) or reads_between (last_text [] a) b [])
world_parts a b = sym (whole_from [] (a ++ b)) ∙ between_append [] a b []

module _ (tape area : Text) (a b : List ℕ) {s : Text} (es : s ≡ get_or (map (text_of tape area) b) 0 []) {x : Bool}
    (ex : x ≡ reads_between [] (tokens_of tape area a) s) where
  front_is : x ≡ reads_between [] (tokens_of tape area a) (first_text (tokens_of tape area b) [])
  front_is = ex ∙ ap (reads_between [] (tokens_of tape area a)) (es ∙ first_at tape area b)

  pub world_front : x ≡ true → true ≡ reads_world [] (tokens_of tape area a ++ tokens_of tape area b)
  world_front h = sym (world_parts (tokens_of tape area a) (tokens_of tape area b) ∙ or_true _ (sym front_is ∙ h))

  pub world_back : x ≡ false → {l : Text} → l ≡ last_text [] (tokens_of tape area a) → {y : Bool} → y ≡ reads_between l (tokens_of tape area b) []
      → y ≡ reads_world [] (tokens_of tape area a ++ tokens_of tape area b)
  world_back h el ey =
      ey ∙ ap (λ m. reads_between m (tokens_of tape area b) []) el
      ∙ sym (world_parts (tokens_of tape area a) (tokens_of tape area b) ∙ or_false _ (sym front_is ∙ h))

pub ruleset worlds = (world_front, world_back)

widths_append : (c : ℕ) (before : Text) (a b : List Token) → widths_in c before (a ++ b) ≡ widths_in c before a ++ widths_in c (last_text before a) b
unfolding widths_in let_some◌else◌then◌
widths_append c before [] b = refl
widths_append c before (t ∷ ts) b = go (widths_in c t.text ts) (widths_in c (last_text t.text ts) b) (token_width c before t) (widths_append c t.text ts b)
  where
    go : {xs : List ℕ} (ys zs : List ℕ) (o : Option ℕ) → xs ≡ ys ++ zs → (let_some o else xs then λ w. w ∷ xs) ≡ (let_some o else ys then λ w. w ∷ ys) ++ zs
    go ys zs none e = e
    go ys zs (some w) e = ap {B = List ℕ} (λ r. w ∷ r) e

module _ (p : ℕ → Bool) (c : ℕ) (a b : List Token) {x : Bool} (ex : x ≡ any p (widths_in c [] a)) where
  pub width_front : x ≡ true → true ≡ any p (widths_in c [] (a ++ b))
  width_front h = rw (widths_append c [] a b) (either_first p (widths_in c [] a) (widths_in c (last_text [] a) b) ex h)

  pub width_back : x ≡ false → {l : Text} → l ≡ last_text [] a → {y : Bool} → y ≡ any p (widths_in c l b) → y ≡ any p (widths_in c [] (a ++ b))
  width_back h el ey =
      rw (widths_append c [] a b) (either_second p (widths_in c [] a) (widths_in c (last_text [] a) b) ex h (ey ∙ ap (λ l. any p (widths_in c l b)) el))

pub ruleset narrow = (width_front, width_back)
