-- Calls of a line: the first and the only one, and what stands between one and a use. Assumes nothing.
use Prim.Native.Nat.{ℕ, zero, suc, ◌+◌, ◌-◌, ◌≤◌, ◌<◌}
use native.Mathlib.Omega.{arith}
use native.Mathlib.Numerals.{add-one}
use mathlib.Core.Path.{◌≡◌, refl, sym, ap, ◌∙◌}
use mathlib.Core.Bool.{Bool, true, false, not as flip}
use mathlib.Core.List.{List, [], ◌∷◌, flat_map}
use mathlib.Core.Option.{Option, none, some}
use lib.Dec.{eqb}
use lib.ListN.{length, take, drop, length-take, length-map}
use borrow.Author.Tests.{lt-ltb, le-ltb, ne_eqb}
use Rattle.std.proofs.lemmas.List.{drop_all}
use Rattle.std.proofs.Math.Seq.{slice}
use Rattle.std.specs.Prelude as std
use Rattle.std.specs.Prelude.{Some, None}
use Rattle.reference.specs.Options.{option_of}
use Rattle.reference.specs.Control.{not, ◌and◌, when◌then◌else◌, let_some◌else◌then◌}
use Rattle.reference.specs.Lists.{count, position, is_some, windows}
use Rattle.reference.specs.Text.{Text}
use Rattle.reference.specs.Listing.{Token}
use Rattle.reference.specs.Shapes.{calls_here, call_in}
use Rattle.reference.proofs.Cases.{some_inj, none-some}
use Rattle.laws.proofs.Parts.{to_end, drop-take}
use Rattle.cautions.specs.Texts.{frame, depth, outside, all_words}
use Rattle.cautions.specs.Values.{calls, in_brackets, acts_beside}
use Rattle.lines.specs.Words.{token_of, tokens_of}
use Rattle.lines.proofs.words.Each.{map-take, map-drop}
use Rattle.lines.proofs.shapes.Places.{find_at}
use Rattle.flow.specs.declared.frames.Frame.{Frame}
use Rattle.flow.specs.Frames.{seen_of}

-- ---- the only call

flip_not : (b : Bool) → flip b ≡ not b
unfolding not
flip_not true = refl
flip_not false = refl

module _ {A : Type 0} where
  windows_drop : (n : ℕ) (l : List A) → windows (drop n l) ≡ drop n (windows l)
  windows_drop zero l = refl
  windows_drop (suc n) [] = refl
  windows_drop (suc zero) (a ∷ []) = refl
  windows_drop (suc (suc n)) (a ∷ []) = refl
  windows_drop (suc n) (a ∷ b ∷ bs) = windows_drop n (b ∷ bs)

  windows_few : (l : List A) → length (windows l) ≤ length l
  windows_few [] = omega arith
  windows_few (a ∷ []) = omega arith
  windows_few (a ∷ b ∷ bs) = let h = windows_few (b ∷ bs) in omega (arith, h)

  module _ (p : A → Bool) where
    none_counted : (xs : List A) → eqb (count p xs) 0 ≡ not (is_some (position p xs))
    unfolding not when◌then◌else◌ let_some◌else◌then◌
    none_counted [] = refl
    none_counted (x ∷ xs) = go (p x) (position p xs) (none_counted xs)
      where
        go : (b : Bool) (o : Option ℕ) → eqb (count p xs) 0 ≡ not (is_some o)
            → eqb (when b then suc (count p xs) else count p xs) 0 ≡ not (is_some (when b then some 0 else (let_some o else none then λ i. some (suc i))))
        go true o e = ne_eqb (suc (count p xs)) 0 (λ h. omega arith)
        go false none e = e
        go false (some i) e = e

    count_after : (xs : List A) (c : ℕ) → position p xs ≡ some c → count p xs ≡ suc (count p (drop (suc c) xs))
    unfolding when◌then◌else◌ let_some◌else◌then◌
    count_after [] c e = absurd (none-some e)
    count_after (x ∷ xs) c e = go (p x) (position p xs) e (count_after xs)
      where
        go : (b : Bool) (o : Option ℕ) → (when b then some 0 else (let_some o else none then λ i. some (suc i))) ≡ some c
            → ((i : ℕ) → o ≡ some i → count p xs ≡ suc (count p (drop (suc i) xs)))
            → (when b then suc (count p xs) else count p xs) ≡ suc (count p (drop c xs))
        go true o e h = let q : 0 ≡ c = some_inj e in rw (sym q) refl
        go false none e h = absurd (none-some e)
        go false (some i) e h = let q : suc i ≡ c = some_inj e in rw (sym q) (h i refl)

one_more : (n : ℕ) → eqb (suc n) 1 ≡ eqb n 0
one_more zero = refl
one_more (suc n) = ne_eqb (suc (suc n)) 1 (λ h. omega arith) ∙ sym (ne_eqb (suc n) 0 (λ h. omega arith))

module _ (tape area : Text) (ws : List ℕ) (c : ℕ) (e : call_in (tokens_of tape area ws) ≡ some c) where
  pub called_inside : c < length ws
  unfolding call_in
  called_inside =
      let h = find_at calls_here (windows (tokens_of tape area ws)) c (token_of tape area 0, token_of tape area 0) e in
      omega (arith, h.0, windows_few (tokens_of tape area ws), length-map ws (token_of tape area))

  pub lone_by : {s : List ℕ} {b : Bool} → s ≡ take (length ws - (c + 1)) (drop (c + 1) ws) → b ≡ is_some (call_in (tokens_of tape area s)) → flip b ≡ eqb (calls (tokens_of tape area ws)) 1
  unfolding call_in
  lone_by {s} {b} es eb =
      let ts : List Token = tokens_of tape area ws in
      let rest : tokens_of tape area s ≡ drop (suc c) ts = ap (tokens_of tape area) (es ∙ to_end (c + 1) ws) ∙ map-drop (token_of tape area) (c + 1) ws ∙ ap (λ n. drop n ts) (add-one c) in
      flip_not b ∙ ap not (eb ∙ ap (λ l. is_some (call_in l)) rest ∙ ap (λ l. is_some (position calls_here l)) (windows_drop (suc c) ts))
      ∙ sym (none_counted calls_here (drop (suc c) (windows ts))) ∙ sym (one_more (count calls_here (drop (suc c) (windows ts))))
      ∙ ap (λ n. eqb n 1) (sym (count_after calls_here (windows ts) c e))

-- ---- between the call and the use

module _ (tape area : Text) (ws : List ℕ) (c u : ℕ) where
  between_is : {s : List ℕ} → s ≡ take (u - c) (drop c ws) → tokens_of tape area s ≡ slice c u (tokens_of tape area ws)
  between_is es =
      ap (tokens_of tape area) es ∙ map-take (token_of tape area) (u - c) (drop c ws) ∙ ap (take (u - c)) (map-drop (token_of tape area) c ws)
      ∙ sym (drop-take c u (tokens_of tape area ws))

  pub enclosed_not : u ≤ c → false ≡ in_brackets (frame (slice c u (tokens_of tape area ws)))
  unfolding in_brackets frame depth flat_map ◌and◌
  enclosed_not h =
      let ts : List Token = tokens_of tape area ws in
      let few : length (take u ts) ≤ c = omega (arith, length-take u ts) in
      rw (drop_all c (take u ts) few) refl

  module _ {s : List ℕ} (es : s ≡ take (u - c) (drop c ws)) {r : Frame} (er : r ≡ seen_of (frame (tokens_of tape area s))) where
    depth_is : r.depth ≡ depth 0 (frame (slice c u (tokens_of tape area ws)))
    depth_is = ap (λ (f : Frame). f.depth) er ∙ ap (λ l. depth 0 (frame l)) (between_is es)

    pub enclosed_open : 0 < r.depth → r.plain ≡ in_brackets (frame (slice c u (tokens_of tape area ws)))
    unfolding in_brackets ◌and◌
    enclosed_open h = rw (← depth_is, lt-ltb 0 r.depth h) (ap (λ (f : Frame). f.plain) er ∙ ap (λ l. all_words (outside 0 (frame l))) (between_is es))

    pub enclosed_shut : r.depth ≤ 0 → false ≡ in_brackets (frame (slice c u (tokens_of tape area ws)))
    unfolding in_brackets ◌and◌
    enclosed_shut h = rw (← depth_is, le-ltb 0 r.depth h) refl

pub ruleset enclosed = (enclosed_not, enclosed_open, enclosed_shut)

-- ---- beside the use

module _ (ts : List Token) (u : ℕ) {r : std.Option ℕ} (e : option_of r ≡ call_in ts) where
  pub acts_not : r ≡ None → false ≡ acts_beside ts u
  unfolding acts_beside let_some◌else◌then◌
  acts_not h = rw (← e, h) refl

  module _ {c : ℕ} (h : r ≡ Some c) {b : Bool} (eb : b ≡ eqb (calls ts) 1) where
    pub acts_other : b ≡ false → true ≡ acts_beside ts u
    unfolding acts_beside let_some◌else◌then◌ not ◌and◌
    acts_other f = rw (← e, h, ← eb, f) refl

    pub acts_around : b ≡ true → {x : Bool} → x ≡ in_brackets (frame (slice c u ts)) → flip x ≡ acts_beside ts u
    unfolding acts_beside let_some◌else◌then◌ ◌and◌
    acts_around t {x} ex = rw (← e, h, ← eb, t, ← ex) (flip_not x)

pub ruleset acting = (acts_not, acts_other, acts_around)
