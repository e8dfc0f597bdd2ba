-- Places that a search finds: where a search and a test agree, what stands at the place, pairs of neighbours. Assumes nothing.
use Prim.Native.Nat.{ℕ, zero, suc, ◌+◌, ◌-◌, ◌≤◌, ◌<◌}
use native.Mathlib.Omega.{arith}
use mathlib.Core.Path.{◌≡◌, refl, sym, ap, ◌∙◌}
use mathlib.Core.Bool.{Bool, true, false}
use mathlib.Core.List.{List, [], ◌∷◌, map}
use mathlib.Core.Option.{Option, none, some}
use lib.ListN.{length, get_or, drop, length-map, length-drop, get_or-map}
use lib.Seq.{get_or-drop}
use Rattle.reference.specs.Control.{when◌then◌else◌, let_some◌else◌then◌}
use Rattle.reference.specs.Lists.{find, position, get}
use Rattle.reference.specs.Text.{Text}
use Rattle.reference.specs.Listing.{is, Symbol}
use Rattle.reference.proofs.Cases.{some_inj, none-some}
use Rattle.laws.proofs.Scans.{from}
use Rattle.lines.specs.Words.{token_of, tokens_of}
use Rattle.lines.specs.Shapes.{symbol_from}
use Rattle.std.specs.List.{range_with_len}
use Rattle.std.specs.Option.{option_map}
use Rattle.std.proofs.lemmas.Iterator.Adapters.{option_map_id}
use Rattle.lines.proofs.words.Each.{map-drop}
use Rattle.lines.proofs.words.Chains.{find_places}
use Rattle.std.specs.Prelude as std
use Rattle.std.specs.Prelude.{Some, None}
use Rattle.reference.specs.Options.{option_of}

-- ---- whether there is a place

pub found_is : {r : std.Option ℕ} {k : ℕ} {o : Option ℕ} → option_of r ≡ o → r ≡ Some k → o ≡ some k
found_is e a = rw (← e, a)

pub found-not : {r : std.Option ℕ} {o : Option ℕ} → option_of r ≡ o → r ≡ None → o ≡ none
found-not e a = rw (← e, a)

module _ {A : Type 0} (p : A → Bool) where
  -- what stands at the place
  pub find_at : (s : List A) (k : ℕ) (d : A) → position p s ≡ some k → (k < length s) × (find p s ≡ some (get_or s k d))
  unfolding when◌then◌else◌ let_some◌else◌then◌
  find_at [] k d e = absurd (none-some e)
  find_at (x ∷ xs) k d e = step (p x) (position p xs) e (λ i f. find_at xs i d f) refl
    where
      step : (b : Bool) (o : Option ℕ) → (when b then some 0 else (let_some o else none then λ i. some (suc i))) ≡ some k
          → ((i : ℕ) → position p xs ≡ some i → (i < length xs) × (find p xs ≡ some (get_or xs i d))) → position p xs ≡ o
          → (k < length (x ∷ xs)) × ((when b then some x else find p xs) ≡ some (get_or (x ∷ xs) k d))
      step true o e h f = let q : 0 ≡ k = some_inj e in rw (sym q) (omega arith, refl)
      step false none e h f = absurd (none-some e)
      step false (some i) e h f = let q : suc i ≡ k = some_inj e in rw (sym q) (omega (arith, (h i f).0), (h i f).1)

  pub find_none : (s : List A) → position p s ≡ none → find p s ≡ none
  unfolding when◌then◌else◌ let_some◌else◌then◌
  find_none [] e = refl
  find_none (x ∷ xs) e = step (p x) (position p xs) e (find_none xs) refl
    where
      step : (b : Bool) (o : Option ℕ) → (when b then some 0 else (let_some o else none then λ i. some (suc i))) ≡ none
          → (position p xs ≡ none → find p xs ≡ none) → position p xs ≡ o → (when b then some x else find p xs) ≡ none
      step true o e h f = absurd (none-some (sym e))
      step false none e h f = h f
      step false (some i) e h f = absurd (none-some (sym e))

-- ---- the first Symbol from a token on

module _ (tape area : Text) (ws : List ℕ) (n : ℕ) where
  pub symbol_begin : symbol_from (tokens_of tape area ws) n ≡ from n (position (is Symbol) (tokens_of tape area (drop n ws)))
  unfolding symbol_from from
  symbol_begin = rw map-drop

  -- r is the first place from n on, by a search over the places
  pub symbol_found : (r : std.Option ℕ)
      → option_map (λ x. x) r ≡ std.find (λ k. is Symbol (token_of tape area (get_or ws k 0))) (range_with_len n (length ws - n)) → option_of r ≡ symbol_from (tokens_of tape area ws) n
  symbol_found r e =
      let l : length ws - n ≡ length (tokens_of tape area (drop n ws)) = sym (length-map (drop n ws) (token_of tape area) ∙ length-drop n ws) in
      ap option_of (sym (option_map_id r) ∙ e) ∙ rw (l, symbol_begin)
      (find_places (is Symbol) (token_of tape area 0) (λ k. is Symbol (token_of tape area (get_or ws k 0))) (tokens_of tape area (drop n ws)) n
      (λ k b. ap (is Symbol) (ap (token_of tape area) (sym (get_or-drop n ws k 0)) ∙ sym (get_or-map (token_of tape area) (drop n ws) k 0))))

  pub symbol_at : (s : ℕ) → symbol_from (tokens_of tape area ws) n ≡ some s
      → (s < length ws) × (find (is Symbol) (drop n (tokens_of tape area ws)) ≡ some (token_of tape area (get_or ws s 0)))
  unfolding symbol_from let_some◌else◌then◌
  symbol_at s e = step (position (is Symbol) (drop n (tokens_of tape area ws))) refl e
    where
      step : (o : Option ℕ) → position (is Symbol) (drop n (tokens_of tape area ws)) ≡ o → (let_some o else none then λ k. some (n + k)) ≡ some s
          → (s < length ws) × (find (is Symbol) (drop n (tokens_of tape area ws)) ≡ some (token_of tape area (get_or ws s 0)))
      step none f e = absurd (none-some e)
      step (some k) f e =
          let q : n + k ≡ s = some_inj e in
          let h = find_at (is Symbol) (drop n (tokens_of tape area ws)) k (token_of tape area 0) f in
          rw (sym q) (
            omega (arith, h.0, length-drop n (tokens_of tape area ws), length-map ws (token_of tape area)),
            h.1 ∙ ap some (get_or-drop n (tokens_of tape area ws) k (token_of tape area 0) ∙ get_or-map (token_of tape area) ws (n + k) 0),
          )

  pub symbol_fromone : symbol_from (tokens_of tape area ws) n ≡ none → find (is Symbol) (drop n (tokens_of tape area ws)) ≡ none
  unfolding symbol_from let_some◌else◌then◌
  symbol_fromone e = step (position (is Symbol) (drop n (tokens_of tape area ws))) refl e
    where
      step : (o : Option ℕ) → position (is Symbol) (drop n (tokens_of tape area ws)) ≡ o → (let_some o else none then λ k. some (n + k)) ≡ none
          → find (is Symbol) (drop n (tokens_of tape area ws)) ≡ none
      step none f e = find_none (is Symbol) (drop n (tokens_of tape area ws)) f
      step (some k) f e = absurd (none-some (sym e))

-- ---- the token at a place, and none past the end

module _ {A : Type 0} (f : ℕ → A) where
  pub get_at : (ws : List ℕ) (k : ℕ) → k < length ws → get (map f ws) k ≡ some (f (get_or ws k 0))
  get_at [] k h = absurd (omega arith)
  get_at (w ∷ ws) zero h = refl
  get_at (w ∷ ws) (suc k) h = get_at ws k (omega arith)

  pub get_past : (ws : List ℕ) (k : ℕ) → length ws ≤ k → get (map f ws) k ≡ none
  get_past [] k h = refl
  get_past (w ∷ ws) zero h = absurd (omega arith)
  get_past (w ∷ ws) (suc k) h = get_past ws k (omega arith)
