-- Chains of iterators over the words of a line, by a test of what each means: that the closure may be called at each word, and what `any`,
-- `position`, `find` and `count` answer; over the words themselves, over the places of a list, and over pairs of neighbours. Assumes nothing.
use Rattle.std.proofs.Common.{◌≡◌, ℕ, zero, suc, ◌+◌, ◌-◌, ◌≤◌, ◌<◌, Bool, true, false, List, [], ◌∷◌, map, length, take, drop, get_or, Option, Some, refl, sym, ap, ◌∙◌, find, cond}
use Rattle.std.proofs.Common.{Bor, Iter, arith, add-zero, zero-add}
use denote.Param.Members.{Mut}
use Rattle.std.proofs.iter.Yields.{fronts, nat_range_steps}
use Rattle.std.specs.Fn.{Called, CalledAt}
use Rattle.std.specs.Iterator.{CallableAtEachTurn, ChecksAny, FindsPosition, Drains}
use Rattle.std.specs.Iterator.Adapters.{filter_source, filter_callee, filter_steps}
use Rattle.std.specs.List.{list_any, range_with_len}
use Rattle.std.specs.Slice.Iter.{iter_rest, windows_rest, windows_size, windows_steps}
use Rattle.std.specs.declared.ops.Range.{Range}
use Rattle.std.specs.declared.iter.Filter.{Filter}
use Rattle.std.specs.declared.slice.Windows.{Windows}
use Rattle.std.proofs.lemmas.Iterator.{YieldsList, YieldsList-from_slice, YieldsList-from_range}
use Rattle.std.proofs.lemmas.Iterator.Adapters.{serves_from_places}
use Rattle.std.proofs.lemmas.Iterator.Consumers.{count_from_yields_List, YieldsList-from_filter}
use Rattle.std.proofs.lemmas.Iterator.Search.{any_from_yields_List, position_from_yields_List}
use Rattle.std.proofs.lemmas.Iterator.Splits.{YieldsList-from_shown_while}
use Rattle.std.proofs.lemmas.List.{get_or_read}
use Rattle.std.proofs.lemmas.List.FromFn.{length-range_with_len, get_or-range_with_len}
use Rattle.std.proofs.lemmas.List.Sums.{length-filter}
use Rattle.std.proofs.Math.Option as own
use Rattle.reference.specs.Control.{when◌then◌else◌, let_some◌else◌then◌}
use Rattle.reference.specs.Lists as lists
use Rattle.reference.specs.Text.{Text}
use Rattle.reference.specs.Options.{option_of}
use Rattle.laws.proofs.Scans.{from, any-map, count_map, position-map}
use Rattle.laws.proofs.Std.{any-std, position-std, count-std, or-std}
use Rattle.lines.specs.Words.{Points, Holds}

-- ---- over the words

-- a word that a chain gives points into its text
pub given_points : {tape area : Text} {ws : List ℕ} → Holds tape area ws → (x k : ℕ) → k < length ws → x ≡ get_or ws k x → Points tape area x
given_points {ws = ws} h x k b e = rw (get_or_read ws k x b e 0) (h.at k b)

pub serves_words : {tape area : Text} {ws : List ℕ} → Holds tape area ws → {s : Iter ℕ} {F : Type 0} {R : F → Bor ℕ → F → Type 0} {Q : F → Bor ℕ → Type 0} {f : F} → iter_rest s ≡ ws
    → ((x : Bor ℕ) (q : F) → R f x q → q ≡ f) → ((x : Bor ℕ) → Points tape area x.now → Q f x) → CallableAtEachTurn fronts R Q s f
serves_words {ws = ws} h e same calls = serves_from_places (YieldsList-from_slice ws e) same (λ x k b i. calls x (given_points h x.now k b i))

-- p is the test, and f what a word means
module _ {A : Type 0} (p : A → Bool) (f : ℕ → A) (ws : List ℕ) where
  abbrev passes : ℕ → Bool
  passes w = p (f w)

  pub any_words : {F : Type 0} {g : Mut F (Bor ℕ × Unit {0}) Bool} {s : Iter ℕ} (u : Iter ℕ) (h : F) (r : Bool)
      → ChecksAny fronts g s h r u
      → iter_rest s ≡ ws → ((x : Bor ℕ) (b : Bool) (q : F) → Called g h (x, tt) b q → (q ≡ h) × (b ≡ p (f x.now))) → r ≡ lists.any p (map f ws)
  any_words u h r ran e same = any_from_yields_List passes u h r ran (YieldsList-from_slice ws e) same ∙ any-std passes ws ∙ sym (any-map p f ws)

  pub position_words : {F : Type 0} {g : Mut F (Bor ℕ × Unit {0}) Bool} {s : Iter ℕ} (u : Iter ℕ) (h : F) (r : Option ℕ)
      → FindsPosition fronts g s h r u
      → iter_rest s ≡ ws → ((x : Bor ℕ) (b : Bool) (q : F) → Called g h (x, tt) b q → (q ≡ h) × (b ≡ p (f x.now))) → option_of r ≡ lists.position p (map f ws)
  position_words u h r ran e same = ap option_of (position_from_yields_List passes u h r ran (YieldsList-from_slice ws e) same) ∙ position-std passes ws ∙ sym (position-map p f ws)

  pub count_words : {F : Type 0} (g : Mut F (Bor (Bor ℕ) × Unit {0}) Bool) (s : Filter (Iter ℕ) F) {h : F} (r : ℕ)
      → (xs : List (Bor ℕ)) × Drains (filter_steps fronts g) s xs × (r ≡ length xs)
      → iter_rest (filter_source s) ≡ ws → filter_callee s ≡ h → ((x : Bor ℕ) (b : Bool) (q : F) → CalledAt g h x b q → (q ≡ h) × (b ≡ p (f x.now))) → r ≡ lists.count p (map f ws)
  count_words g s r ran e k same =
      count_from_yields_List s r ran (YieldsList-from_filter g passes (YieldsList-from_slice ws e) k same) ∙ length-filter passes ws ∙ count-std passes ws ∙ sym (count_map p f ws)

-- ---- over places: t asks of a place from a on what q asks of the element that stands there

module _ {A : Type 0} (q : A → Bool) (d : A) where
  pub any_places : (t : ℕ → Bool) (xs : List A) (a : ℕ) → ((k : ℕ) → k < length xs → t (a + k) ≡ q (get_or xs k d)) → list_any t (range_with_len a (length xs)) ≡ lists.any q xs
  any_places t [] a h = refl
  any_places t (x ∷ xs) a h =
      rw (sym (rw add-zero at (h 0 (omega arith))), any_places t xs (a + 1) (λ k b. let e : a + 1 + k ≡ a + suc k = omega arith in rw e (h (suc k) (omega arith)))) (or-std (t a) (lists.any q xs))

  pub find_places : (t : ℕ → Bool) (xs : List A) (a : ℕ) → ((k : ℕ) → k < length xs → t (a + k) ≡ q (get_or xs k d)) → option_of (find t (range_with_len a (length xs))) ≡ from a (lists.position q xs)
  unfolding from when◌then◌else◌ let_some◌else◌then◌
  find_places t [] a h = refl
  find_places t (x ∷ xs) a h =
      rw (rw add-zero at (h 0 (omega arith))) (step (q x) (lists.position q xs) (find_places t xs (a + 1) (λ k b. let e : a + 1 + k ≡ a + suc k = omega arith in rw e (h (suc k) (omega arith)))))
    where
      step : (b : Bool) (o : own.Option ℕ) → option_of (find t (range_with_len (a + 1) (length xs))) ≡ (let_some o else own.none then λ k. own.some (a + 1 + k))
          → option_of (cond b (Some a) (find t (range_with_len (a + 1) (length xs))))
          ≡ (let_some (when b then own.some 0 else (let_some o else own.none then λ k. own.some (suc k))) else own.none then λ k. own.some (a + k))
      step true o e = ap own.some (omega arith)
      step false own.none e = e
      step false (own.some k) e = e ∙ ap own.some (omega arith)

pub serves_places : (a n m : ℕ) {s : Range ℕ} {F : Type 0} {R : F → ℕ → F → Type 0} {Q : F → ℕ → Type 0} {f : F} → s ≡ record { start = a; end = n } → n - a ≡ m
    → ((x : ℕ) (q : F) → R f x q → q ≡ f) → ((x : ℕ) → x < a + m → Q f x) → CallableAtEachTurn nat_range_steps R Q s f
serves_places a n m e l same calls = serves_from_places (YieldsList-from_range a n m e l) same (λ x k b i. calls x (below k b i))
  where
    below : {x : ℕ} (k : ℕ) → k < length (range_with_len a m) → x ≡ get_or (range_with_len a m) k x → x < a + m
    below k b i = omega (arith, b, i ∙ get_or-range_with_len a m k _ (rw length-range_with_len at b), rw length-range_with_len at b)

-- p asks of what a word means, for each of the n words
module _ {A : Type 0} (p : A → Bool) (f : ℕ → A) (ws : List ℕ) where
  pub any_at_places : (n : ℕ) {F : Type 0} {g : Mut F (ℕ × Unit {0}) Bool} {s : Range ℕ} (u : Range ℕ) (h : F) (r : Bool)
      → ChecksAny nat_range_steps g s h r u
      → s ≡ record { start = 0; end = n } → length ws ≡ n → ((x : ℕ) (b : Bool) (q : F) → Called g h (x, tt) b q → (q ≡ h) × (b ≡ p (f (get_or ws x 0)))) → r ≡ lists.any p (map f ws)
  any_at_places n u h r ran e l same =
      any_from_yields_List (λ k. p (f (get_or ws k 0))) u h r ran (YieldsList-from_range 0 n (length ws) e (omega arith)) same
      ∙ any_places (λ w. p (f w)) 0 (λ k. p (f (get_or ws k 0))) ws 0 (λ k b. rw zero-add refl) ∙ sym (any-map p f ws)

-- ---- over pairs of neighbours

abbrev pub twos : List ℕ → List (List ℕ)
twos ws = map (λ (q : ℕ × ℕ). q.0 ∷ q.1 ∷ []) (lists.windows ws)

twos-short : (ws : List ℕ) → length ws < 2 → length (twos ws) ≡ 0
twos-short [] h = refl
twos-short (a ∷ []) h = refl
twos-short (a ∷ b ∷ rest) h = absurd (omega arith)

twos_more : (ws : List ℕ) → 2 ≤ length ws → twos ws ≡ take 2 ws ∷ twos (drop 1 ws)
twos_more [] h = absurd (omega arith)
twos_more (a ∷ []) h = absurd (omega arith)
twos_more (a ∷ b ∷ rest) h = refl

twos_at : (ws : List ℕ) (k : ℕ) (d : List ℕ) → k < length (twos ws) → (k + 1 < length ws) × (get_or (twos ws) k d ≡ get_or ws k 0 ∷ get_or ws (k + 1) 0 ∷ [])
twos_at [] k d h = absurd (omega arith)
twos_at (a ∷ []) k d h = absurd (omega arith)
twos_at (a ∷ b ∷ rest) zero d h = (omega arith, refl)
twos_at (a ∷ b ∷ rest) (suc k) d h =
    let i = twos_at (b ∷ rest) k d (omega arith) in
    let e : suc k + 1 ≡ suc (k + 1) = omega arith in
    (omega (arith, i.0), i.1 ∙ rw e refl)

pub YieldsList-from_pairs : {s : Windows ℕ} (ws : List ℕ) → windows_size s ≡ 2 → windows_rest s ≡ ws → YieldsList windows_steps (λ x. x.now) s (twos ws)
YieldsList-from_pairs {s} ws two e =
    rw (sym e) (YieldsList-from_shown_while windows_steps (λ x. x.now) (λ s. twos (windows_rest s)) (λ s. windows_size s ≡ 2)
    (λ s t i h. twos-short (windows_rest s) (omega (arith, h.1.0)))
    (λ s x t i h.
    let n : 2 ≤ length (windows_rest s) = omega (arith, h.1.0) in
    let f : take 2 (windows_rest s) ≡ x.now = sym (rw i at h.1.1) in
    (h.0 ∙ i, twos_more (windows_rest s) n ∙ rw (f, h.1.2) refl)) s two)

pub serves_pairs : {tape area : Text} {ws : List ℕ} → Holds tape area ws → {s : Windows ℕ} {F : Type 0} {R : F → Bor (List ℕ) → F → Type 0} {Q : F → Bor (List ℕ) → Type 0} {f : F}
    → windows_size s ≡ 2 → windows_rest s ≡ ws
    → ((x : Bor (List ℕ)) (q : F) → R f x q → q ≡ f)
    → ((x : Bor (List ℕ)) → length x.now ≡ 2 → Points tape area (get_or x.now 0 0) → Points tape area (get_or x.now 1 0) → Q f x) → CallableAtEachTurn windows_steps R Q s f
serves_pairs {tape} {area} {ws} h two e same calls =
    serves_from_places (YieldsList-from_pairs ws two e) same
    (λ x k b i.
    let g = twos_at ws k x.now b in
    let j : x.now ≡ get_or ws k 0 ∷ get_or ws (k + 1) 0 ∷ [] = i ∙ g.1 in
    calls x (ap length j) (rw j (h.at k (omega (arith, g.0)))) (rw j (h.at (k + 1) g.0)))

module _ {A : Type 0} (p : A × A → Bool) (f : ℕ → A) where
  pairs-map : (a : ℕ) (ws : List ℕ) → lists.pairs_from (f a) (map f ws) ≡ map (λ (q : ℕ × ℕ). (f q.0, f q.1)) (lists.pairs_from a ws)
  pairs-map a [] = refl
  pairs-map a (b ∷ ws) = ap (λ l. (f a, f b) ∷ l) (pairs-map b ws)

  windows-map : (ws : List ℕ) → lists.windows (map f ws) ≡ map (λ (q : ℕ × ℕ). (f q.0, f q.1)) (lists.windows ws)
  windows-map [] = refl
  windows-map (a ∷ ws) = pairs-map a ws

  pub position_pairs : (ws : List ℕ) {F : Type 0} {g : Mut F (Bor (List ℕ) × Unit {0}) Bool} {s : Windows ℕ} (u : Windows ℕ) (h : F) (r : Option ℕ)
      → FindsPosition windows_steps g s h r u
      → windows_size s ≡ 2 → windows_rest s ≡ ws → ((x : Bor (List ℕ)) (b : Bool) (q : F) → Called g h (x, tt) b q → (q ≡ h) × (b ≡ p (f (get_or x.now 0 0), f (get_or x.now 1 0))))
      → option_of r ≡ lists.position p (lists.windows (map f ws))
  position_pairs ws u h r ran two e same =
      let test : List ℕ → Bool = λ l. p (f (get_or l 0 0), f (get_or l 1 0)) in
      ap option_of (position_from_yields_List test u h r ran (YieldsList-from_pairs ws two e) same)
      ∙ position-std test (twos ws) ∙ position-map test (λ (q : ℕ × ℕ). q.0 ∷ q.1 ∷ []) (lists.windows ws)
      ∙ sym (position-map p (λ (q : ℕ × ℕ). (f q.0, f q.1)) (lists.windows ws)) ∙ ap (lists.position p) (sym (windows-map ws))
