-- A straight piece returns the same, with the profile or without it, where no finished line has the kind `other_text` (`unwarned`): no caution is lost, so
-- no join on the way raised it; then each right side that got no brackets stands where an expression begins, or is one term (Terms). Assumes nothing.
use Prim.Native.Nat.{ℕ, zero, suc, ◌+◌, ◌<◌}
use native.Mathlib.Omega.{arith}
use mathlib.Core.Path.{◌≡◌, refl, sym, ap, ◌∙◌, subst, subst⁻¹}
use mathlib.Core.Bool.{Bool, true, false, false≢true}
use mathlib.Core.List.{List, [], ◌∷◌, ◌++◌, map, flatten}
use mathlib.Core.Option.{none, some}
use lib.Dec.{ltb}
use lib.ListN.{length, get_or, length-map}
use lib.Seq.{slice}
use borrow.Author.Tests.{eq-eqb}
use Rattle.reference.specs.Control.{not, ◌and◌, ◌or◌, let_some◌else◌then◌}
use Rattle.reference.specs.Lists.{position}
use Rattle.reference.specs.Text.{Text, bytes, has, starts_with}
use Rattle.reference.specs.Listing.{Token, Listing, ◌at◌}
use Rattle.reference.specs.Names.{Fam, family, of_family}
use Rattle.reference.specs.Rules.{Rules, volatile}
use Rattle.reference.specs.Shapes.{Assignment, assignment_of}
use Rattle.reference.specs.Life.{Labels}
use Rattle.reference.specs.Join.{text_before, text_after, standalone, is_bracketed, lone_number, try_at, targets}
use Rattle.reference.specs.Run.{Attempt, success, after_attempts, run, attempts_of, finished}
use Rattle.reference.specs.Marks.{moved}
use Rattle.reference.specs.Demand.{Attempts, over, failed, succeeded, Rounds, enough, ended, again}
use Rattle.reference.specs.Straight.{breaks}
use Rattle.reference.proofs.Cases.{both, neither, either, not-true, true-false, fails, some_inj, none-some, bind-some}
use Rattle.reference.proofs.Attempts.{Joined, by_targets, attempt_joined}
use Rattle.reference.proofs.Rounds.{run-taken}
use Rattle.laws.proofs.Scans.{if-true, if-false, or_false}
use Rattle.joining.specs.Plan.{wants_brackets}
use Rattle.straight.specs.Meaning.{Meaning}
use Rattle.straight.proofs.Substituting.{leads_text}
use Rattle.straight.proofs.Joining.{Anywhere, short_anywhere}
use Rattle.straight.proofs.Attempt.{Suited}
use Rattle.straight.proofs.Cleaning.{AllSuited, suited-means}
use Rattle.cautions.specs.Kinds.{odd_form, overwritten, call_moved, read_moved, other_width, other_text, odd_number, slot, ◌∪◌, ◌⊆◌, ◌given◌, union}
use Rattle.cautions.specs.Forms.{Ways}
use Rattle.cautions.specs.Values.{acts_beside, is_spared}
use Rattle.cautions.specs.Uses.{is_apart, moves_call, moves_read, changes_width, sums_numbers, groups, places_of, use_cautions, numbers_odd}
use Rattle.cautions.specs.Joins.{is_odd, past_call, none_yet, put, line_cautions, uses_cautions, spread, join_cautions}
use Rattle.cautions.specs.Cautions.{finished_cautions, ALL_BUT_TEXT, Unwarned}
use Rattle.cautions.proofs.Sets.{in_self, in_left, in_right, in_trans, given_true}
use Rattle.cautions.proofs.Handed.{put_keeps, put_on}
use Rattle.cautions.proofs.Lost.{nothing_lost}
use Rattle.cautions.proofs.Ordered.{single_use}
use Rattle.cautions.proofs.Terms.{one_term}

-- ---- what a use that does not group puts on its line

record Told (s : ℕ) : Type 0 where
  has : other_text ⊆ s

told_left : (a b : ℕ) → Told a → Told (a ∪ b)
told_left a b t = record { has = in_trans other_text a (a ∪ b) t.has (in_left a b) }

told_right : (a b : ℕ) → Told b → Told (a ∪ b)
told_right a b t = record { has = in_trans other_text b (a ∪ b) t.has (in_right a b) }

told_given : (b : Bool) → b ≡ true → Told (other_text given b)
told_given b e = record { has = subst⁻¹ (λ (s : ℕ). other_text ⊆ s) (given_true other_text b e) (in_self other_text) }

told_put : (s : ℕ) (js : List ℕ) (ts : List ℕ) (j : ℕ) → Told (get_or ts j 0) → Told (get_or (put s js 0 ts) j 0)
told_put s js ts j t = record { has = in_trans other_text (get_or ts j 0) _ t.has (put_keeps s js 0 ts j) }

-- the use at the place u
place_told : (x : Text) (g : ℕ → ℕ) (ts : List Token) (p u : ℕ) → position (of_family x) ts ≡ some u → Told (g (p + u)) → Told (union (map g (places_of x p ts)))
unfolding places_of union let_some◌else◌then◌
place_told x g [] p u e t = absurd (none-some e)
place_told x g (w ∷ ws) p u e t = go (of_family x w) refl (place_told x g ws (suc p))
  where
    go : (b : Bool) → of_family x w ≡ b → ((u : ℕ) → position (of_family x) ws ≡ some u → Told (g (suc p + u)) → Told (union (map g (places_of x (suc p) ws))))
        → Told (union (map g (places_of x p (w ∷ ws))))
    go true h ih =
        let z : 0 ≡ u = some_inj (sym (if-true _ _ h) ∙ e) in
        let same : p + u ≡ p = omega (arith, z) in
        subst⁻¹ (λ (us : List ℕ). Told (union (map g us))) (if-true _ _ h) (told_left _ _ (subst (λ (m : ℕ). Told (g m)) same t))
    go false h ih =
        let n = bind-some (sym (if-false _ _ h) ∙ e) in
        let z : suc n.0 ≡ u = some_inj n.2 in
        let same : p + u ≡ suc p + n.0 = omega (arith, z) in
        subst⁻¹ (λ (us : List ℕ). Told (union (map g us))) (if-false _ _ h) (ih n.0 n.1 (subst (λ (m : ℕ). Told (g m)) same t))

module _ (rules : Rules) (lines : Listing) (i : ℕ) (f : Fam) (expr : List Token) where
  -- the use of line j at the place u
  Grouped : ℕ → ℕ → Bool
  Grouped j u = is_apart (text_before (lines at j).tokens u) (text_after (lines at j).tokens u) and groups rules f expr (lines at j).tokens u

  use_told : (j u : ℕ) (passed : Listing) (new : List Token) → Grouped j u ≡ false → Told (use_cautions rules f expr (lines at j).tokens u passed new)
  unfolding use_cautions Grouped
  use_told j u passed new e =
      let ts : List Token = (lines at j).tokens in
      told_right (overwritten given (has (volatile rules) f.name and acts_beside ts u)) _
      (told_right (call_moved given moves_call rules f expr ts u) _
      (told_right (read_moved given moves_read rules f expr ts u passed) _
      (told_right (other_width given (changes_width rules f expr ts u or sums_numbers rules f expr ts u new)) _ (told_given _ (opposite e)))))
    where
      opposite : {b : Bool} → b ≡ false → not b ≡ true
      opposite {b} e = unfold not in rw e refl

  line_told : (ways : Ways) (j u : ℕ) (new : List Token) → position (of_family f.name) (lines at j).tokens ≡ some u → Grouped j u ≡ false
      → Told (line_cautions rules lines ways i f expr j new)
  unfolding line_cautions
  line_told ways j u new found e =
      let z : 0 + u ≡ u = omega arith in
      let set_of : ℕ → ℕ = λ m. use_cautions rules f expr (lines at j).tokens m (slice (suc i) j lines) new in
      told_right (odd_number given numbers_odd f expr (lines at j).tokens new) _
      (place_told f.name set_of (lines at j).tokens 0 u found (subst⁻¹ (λ (m : ℕ). Told (set_of m)) z (use_told j u (slice (suc i) j lines) new e)))

  uses_told : (ways : Ways) (j u : ℕ) (left : Listing) → position (of_family f.name) (lines at j).tokens ≡ some u → Grouped j u ≡ false
      → Told (uses_cautions rules lines ways i f expr (j ∷ []) left)
  unfolding uses_cautions union
  uses_told ways j u left found e =
      told_right (odd_form given is_odd rules lines ways i f expr j) _
      (told_right (overwritten given past_call rules lines ways i f expr j) _
      (told_right (slot given starts_with f.name (bytes "var_")) _
      (told_left (line_cautions rules lines ways i f expr j (left at moved i j).tokens) 0 (line_told ways j u (left at moved i j).tokens found e))))

-- on line j, of what stands on it
spread_told : (rules : Rules) (lines : Listing) (ways : Ways) (i : ℕ) (fam : Text) (far : List ℕ) (s j : ℕ) (self : Bool) → j < length lines → Told s
    → Told (get_or (spread rules lines ways i fam far s (j ∷ []) self) j 0)
unfolding spread ◌or◌
spread_told rules lines ways i fam far s j self lt t =
    told_put _ _ _ j (told_put _ _ _ j (own s _ t))
  where
    own : (a b : ℕ) → Told a → Told (get_or (put (a ∪ b) (j ∷ []) 0 (none_yet lines)) j 0)
    own a b t =
        let long = length-map {B = ℕ} lines (λ l. 0) in
        record { has = in_trans other_text (a ∪ b) _ (told_left a b t).has (put_on (a ∪ b) (j ∷ []) (none_yet lines) j (omega (arith, lt, long)) (rw (eq-eqb j j refl) refl)) }

module _ (rules : Rules) (lines : Listing) (i : ℕ) (to : Assignment) (f : Fam) (ea : assignment_of (lines at i).tokens ≡ some to) (ef : family to.lhs.text ≡ some f) where
  join_told : (j u : ℕ) (left : Listing) → j < length lines → position (of_family f.name) (lines at j).tokens ≡ some u → Grouped rules lines i f to.expr j u ≡ false
      → Told (get_or (join_cautions rules lines (success i (j ∷ []) left)) j 0)
  unfolding join_cautions let_some◌else◌then◌
  join_told j u left lt found e = rw (ea, ef) (spread_told rules lines _ i f.name _ _ j false lt (uses_told rules lines i f to.expr _ j u left found e))

  -- ---- a use that groups

  grouped-anywhere : (j u : ℕ) → Grouped rules lines i f to.expr j u ≡ true → wants_brackets rules to.expr (lines at j).tokens u ≡ false
      → leads_text (text_before (lines at j).tokens u) ≡ false → Anywhere to.expr
  unfolding Grouped groups wants_brackets is_spared standalone
  grouped-anywhere j u e bare far =
      let ts : List Token = (lines at j).tokens in
      let no_stand : standalone (text_before ts u) (text_after ts u) ≡ false = fails (λ h. true-false (both h).0 (neither far).0) in
      let not_spared : is_spared (text_before ts u) (text_after ts u) ≡ false = or_false _ no_stand ∙ and_first _ _ (neither far).1 in
      let own = both (sym (if-false _ _ not_spared) ∙ (both e).1) in
      either (Anywhere to.expr) own.1
      (λ h. absurd (true-false h (no_brackets no_stand)))
      (λ h. one_term to.expr (not-true h))
    where
      and_first : (a b : Bool) → a ≡ false → (a and b) ≡ false
      and_first a b e = unfold ◌and◌ in rw e refl

      no_brackets : standalone (text_before (lines at j).tokens u) (text_after (lines at j).tokens u) ≡ false → is_bracketed rules to.expr ≡ false
      no_brackets n = fails (λ h. true-false (both_of _ _ h n) bare)
        where
          both_of : (a b : Bool) → a ≡ true → b ≡ false → (a and not b) ≡ true
          both_of a b e f = unfold ◌and◌ not in rw (e, f) refl

-- ---- an attempt

one_token : (expr : List Token) → lone_number expr ≡ true → ltb 1 (length expr) ≡ false
unfolding lone_number
one_token [] e = absurd (false≢true e)
one_token (t ∷ []) e = refl
one_token (t ∷ u ∷ us) e = absurd (false≢true e)

-- no line has the kind
abbrev Untold : Rules → Listing → Attempt → Type 0
Untold rules lines a = (p : ℕ) → p < length lines → Told (get_or (join_cautions rules lines a) p 0) → ⊥

attempt-suited : (rules : Rules) (lines : Listing) (i : ℕ) (labels : Labels) (addressed : List Text) {left : Listing} → try_at rules lines i labels addressed ≡ some left
    → Untold rules lines (success i (targets rules lines i labels) left) → Suited rules lines i
attempt-suited rules lines i labels addressed {left} e untold to f ea ef j u seen found bare far =
    by_targets rules lines i labels (λ js. Joined i (length lines) js → Untold rules lines (success i js left) → Anywhere to.expr) to f ea ef
    (λ t k n. short_anywhere to.expr (one_token to.expr (both t).0))
    (λ t.
    subst⁻¹ (λ (js : List ℕ). Joined i (length lines) js → Untold rules lines (success i js left) → Anywhere to.expr) (single_use rules lines i f to.expr seen)
    (λ k n. by (Grouped rules lines i f to.expr j u) refl k.each.0.1 (n j)))
    (attempt_joined rules lines i labels addressed e) untold
  where
    by : (b : Bool) → Grouped rules lines i f to.expr j u ≡ b → j < length lines
        → (j < length lines → Told (get_or (join_cautions rules lines (success i (j ∷ []) left)) j 0) → ⊥) → Anywhere to.expr
    by true g lt n = grouped-anywhere rules lines i to f ea ef j u g bare far
    by false g lt n = absurd (n lt (join_told rules lines i to f ea ef j u left lt found g))

-- ---- the run

module _ (rules : Rules) where
  -- of each attempt that succeeds
  abbrev Clear : Listing → List Attempt → Type 0
  Clear lines attempts =
      (before more : List Attempt) (a : Attempt) → attempts ≡ before ++ (a ∷ more) → a.removed ≡ true → Untold rules (after_attempts lines before) a

  clear_on : (lines : Listing) (a : Attempt) (more : List Attempt) → Clear lines (a ∷ more) → Clear a.left more
  unfolding after_attempts
  clear_on lines a more c before rest b e = c (a ∷ before) rest b (ap (λ (xs : List Attempt). a ∷ xs) e)

  round_suited : {addressed : List Text} {i : ℕ} {lines : Listing} {labels : Labels} {round : List Attempt} → Attempts rules addressed i lines labels round
      → (more : List Attempt) → Clear lines (round ++ more) → (Clear (after_attempts lines round) more → AllSuited rules (after_attempts lines round) more)
      → AllSuited rules lines (round ++ more)
  unfolding after_attempts
  round_suited (over h) more c f = f c
  round_suited (failed {i = i} {lines = lines} {more = tail} h e rest) more c f =
      (λ r. absurd (false≢true r), round_suited rest more (clear_on lines _ (tail ++ more) c) f)
  round_suited {addressed} (succeeded {i = i} {lines = lines} {lines' = lines'} {labels = labels} {more = tail} h e rest) more c f =
      let a : Attempt = success i (targets rules lines i labels) lines' in
      (λ r. attempt-suited rules lines i labels addressed e (c [] (tail ++ more) a refl refl), round_suited rest more (clear_on lines a (tail ++ more) c) f)

  rounds-suited : {limit : ℕ} {lines : Listing} {rounds : List (List Attempt)} → Rounds rules limit lines rounds → Clear lines (flatten rounds)
      → AllSuited rules lines (flatten rounds)
  unfolding flatten
  rounds-suited enough c = tt
  rounds-suited (ended r e) c = round_suited r [] c (λ d. tt)
  rounds-suited (again {more = more} r e rest) c = round_suited r (flatten more) c (λ d. rounds-suited rest d)

-- a set without the kind
untold : (s : ℕ) → s ⊆ ALL_BUT_TEXT → other_text ⊆ s → ⊥
untold s h t = let z : other_text ⊆ ALL_BUT_TEXT = in_trans other_text s ALL_BUT_TEXT t h in omega (arith, z)

zero_at : (lines : Listing) (q : ℕ) → get_or (none_yet lines) q 0 ≡ 0
zero_at [] q = refl
zero_at (l ∷ lines) zero = refl
zero_at (l ∷ lines) (suc q) = zero_at lines q

-- A STRAIGHT PIECE THAT RAISES NO CAUTION RETURNS THE SAME
pub unwarned : (rules : Rules) (input : Listing) → Unwarned rules input
unfolding attempts_of
unwarned rules input =
    record {
      of_text = by_text;
      of_none = λ h e. by_text h (λ q. subst⁻¹ (λ (s : ℕ). s ⊆ ALL_BUT_TEXT) (ap (λ (ss : List ℕ). get_or ss q 0) e ∙ zero_at (finished rules input) q) refl);
    }
  where
    by_text : breaks input ≡ none → ((q : ℕ) → get_or (finished_cautions rules input) q 0 ⊆ ALL_BUT_TEXT) → Meaning rules input
    by_text h without = unfold attempts_of in suited-means rules input (rounds-suited rules (run-taken rules input).rounds clear) h
      where
        clear : Clear rules input (attempts_of (run rules input))
        clear before more a e removed p lt told =
            let s = (nothing_lost rules input).of_joins before more a e removed p lt in
            untold (get_or (finished_cautions rules input) s.0 0) (without s.0) (in_trans other_text _ _ told.has s.2)
