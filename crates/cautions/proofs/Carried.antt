-- Kept step by step the cautions are those of the definition (`kept`), one set for each finished line. Assumes nothing.
use Prim.Native.Nat.{ℕ, zero, suc, ◌+◌, ◌*◌, ◌<◌, ◌≤◌}
use native.Mathlib.Omega.{arith}
use mathlib.Core.Path.{◌≡◌, refl, sym, ap, ◌∙◌, subst}
use mathlib.Core.Bool.{Bool, false}
use mathlib.Core.List.{List, [], ◌∷◌, ◌++◌, map, flatten, flat_map}
use lib.Dec.{eqb}
use lib.ListN.{length, get_or, drop, length-map}
use lib.Seq.{ext_get_or}
use Rattle.std.specs.Int.Bits.{or_zero_r}
use borrow.Author.Tests.{eq-eqb, eqb-true}
use Rattle.reference.specs.Control.{when◌then◌else◌}
use Rattle.reference.specs.Text.{Text}
use Rattle.reference.specs.Listing.{Listing, with_tokens}
use Rattle.reference.specs.Rules.{Rules}
use Rattle.reference.specs.Life.{Labels}
use Rattle.reference.specs.Run.{Attempt, failure, success, labels_from, after_attempts, after_rounds, last_of, run, attempts_of, finished}
use Rattle.reference.specs.Lists.{modify}
use Rattle.reference.specs.Marks.{comes_to}
use Rattle.reference.specs.Demand.{Attempts, over, failed, succeeded, Rounds, enough, ended, again, Cuts, done, kept, dropped}
use Rattle.reference.proofs.Cases.{by-if, by-some}
use Rattle.reference.proofs.Limits.{All}
use Rattle.reference.proofs.Lines.{length-modify, length-remove}
use Rattle.reference.proofs.Changes.{removed-length}
use Rattle.reference.proofs.Attempts.{attempt_removed, Joined, attempt_joined}
use Rattle.reference.proofs.Rounds.{run-taken}
use Rattle.reference.proofs.Marks.{finished_is}
use Rattle.reference.specs.Tape.{to_le_bytes}
use Rattle.cautions.specs.Kinds.{◌∪◌, ◌⊆◌}
use Rattle.cautions.specs.Forms.{Ways, places, places_from}
use Rattle.cautions.specs.Joins.{none_yet, put, spread, join_cautions, cut_cautions}
use Rattle.cautions.specs.Cautions.{picked, joined, Cut, cuts_made, both, with_cuts, uncut, cuts_of, finished_cautions, caution_bytes, hand_on, carry, kept_cautions, Kept}
use Rattle.cautions.proofs.Sets.{or_assoc, in_self, in_both, union_in, in_left, in_right, in_trans, get_both, picked_has, picked_in}
use Rattle.cautions.proofs.Small.{finished_small}
use Rattle.cautions.proofs.Handed.{length-put, through, handed}

-- ---- the attempts of a run, from one listing on to another

pub data Along : Listing → List Attempt → Listing → Type 0 where
  rest : {lines : Listing} → Along lines [] lines
  stays : {lines after : Listing} {i : ℕ} {more : List Attempt} → Along lines more after → Along lines (failure i lines ∷ more) after
  joins : {lines left after : Listing} {i : ℕ} {js : List ℕ} {more : List Attempt} → i < length lines → suc (length left) ≡ length lines
      → Joined i (length lines) js → Along left more after → Along lines (success i js left ∷ more) after

along_append : {a b c : Listing} {xs ys : List Attempt} → Along a xs b → Along b ys c → Along a (xs ++ ys) c
along_append rest q = q
along_append (stays p) q = stays (along_append p q)
along_append (joins h e j p) q = joins h e j (along_append p q)

round_along : {rules : Rules} {addressed : List Text} {i : ℕ} {lines : Listing} {labels : Labels} {round : List Attempt}
    → Attempts rules addressed i lines labels round → Along lines round (after_attempts lines round)
unfolding after_attempts
round_along (over h) = rest
round_along (failed h e more) = stays (round_along more)
round_along {rules = rules} {addressed = addressed} (succeeded {i = i} {lines = lines} {labels = labels} h e next) =
    joins h (removed-length (attempt_removed rules lines i labels addressed e)) (attempt_joined rules lines i labels addressed e) (round_along next)

rounds_along : {rules : Rules} {limit : ℕ} {lines : Listing} {rounds : List (List Attempt)} → Rounds rules limit lines rounds
    → Along lines (flatten rounds) (after_rounds lines rounds)
unfolding flatten after_rounds
rounds_along enough = rest
rounds_along (ended h e) = along_append (round_along h) rest
rounds_along (again h e more) = along_append (round_along h) (rounds_along more)

pub run_along : (rules : Rules) (input : Listing) → Along input (attempts_of (run rules input)) (uncut rules input)
unfolding attempts_of
run_along rules input = rounds_along (run-taken rules input).rounds

-- ---- the finished listing has as many lines as the rounds leave

cuts_length : {rules : Rules} {labels : Labels} {i : ℕ} {lines : Listing} {cuts : List Listing} → Cuts rules labels i lines cuts
    → length (last_of lines cuts) ≡ length lines
unfolding last_of
cuts_length (done h) = refl
cuts_length (kept h e more) = cuts_length more
cuts_length (dropped {i = i} {lines = lines} h e same more) = cuts_length more ∙ ap length same ∙ length-modify _ i lines

pub uncut_length : (rules : Rules) (input : Listing) → length (finished rules input) ≡ length (uncut rules input)
uncut_length rules input = ap length (finished_is rules input) ∙ cuts_length (run-taken rules input).cuts

-- ---- how many sets

spread-length : (rules : Rules) (lines : Listing) (ways : Ways) (i : ℕ) (fam : Text) (far : List ℕ) (s : ℕ) (into : List ℕ) (self : Bool)
    → length (spread rules lines ways i fam far s into self) ≡ length lines
unfolding spread
spread-length rules lines ways i fam far s into self =
    length-put _ _ 0 _ ∙ length-put _ _ 0 _ ∙ length-put _ _ 0 _ ∙ length-map lines (λ l. 0)

spread_fits : (rules : Rules) (lines : Listing) (ways : Ways) (i : ℕ) (fam : Text) (far : List ℕ) (s : ℕ) (into : List ℕ) (self : Bool)
    → length (spread rules lines ways i fam far s into self) ≤ length lines
spread_fits rules lines ways i fam far s into self = let z = spread-length rules lines ways i fam far s into self in omega (arith, z)

join-length : (rules : Rules) (lines : Listing) (a : Attempt) → length (join_cautions rules lines a) ≤ length lines
unfolding join_cautions
join-length rules lines a =
    by-some (λ (ss : List ℕ). length ss ≤ length lines) (λ n. omega arith)
    (λ s e. by-some (λ (ss : List ℕ). length ss ≤ length lines) (λ n. omega arith)
    (λ f g. spread_fits rules lines _ a.line f.name _ _ a.into false))

both-length : (ss ts : List ℕ) → length ts ≤ length ss → length (both ss ts) ≡ length ss
unfolding both
both-length [] [] h = refl
both-length [] (t ∷ ts) h = absurd (omega arith)
both-length (s ∷ ss) [] h = ap suc (both-length ss [] (omega arith))
both-length (s ∷ ss) (t ∷ ts) h = ap suc (both-length ss ts (omega arith))

hand_on-length : (i : ℕ) (js ss : List ℕ) → i < length ss → suc (length (hand_on i js ss)) ≡ length ss
unfolding hand_on
hand_on-length i js ss h =
    let z = length-put (get_or ss i 0) js 0 ss in
    let y = length-remove i (put (get_or ss i 0) js 0 ss) (omega (arith, z)) in
    omega (arith, z, y)

-- ---- one place, and two lists

picked_one : (q : ℕ) (ss : List ℕ) → picked (λ p. eqb p q) ss ≡ get_or ss q 0
picked_one q ss =
    in_both (picked (λ p. eqb p q) ss) (get_or ss q 0)
    (picked_in (λ p. eqb p q) ss (get_or ss q 0) (λ p e. rw (eqb-true p q e) (in_self (get_or ss q 0))))
    (picked_has (λ p. eqb p q) ss q (eq-eqb q q refl))

picked-both : (P : ℕ → Bool) (ss ts : List ℕ) → picked P (both ss ts) ≡ picked P ss ∪ picked P ts
picked-both P ss ts =
    in_both (picked P (both ss ts)) (picked P ss ∪ picked P ts)
    (picked_in P (both ss ts) (picked P ss ∪ picked P ts) (λ p e.
    rw (get_both ss ts p)
    (union_in (get_or ss p 0) (get_or ts p 0) (picked P ss ∪ picked P ts)
    (in_trans (get_or ss p 0) (picked P ss) (picked P ss ∪ picked P ts) (picked_has P ss p e) (in_left (picked P ss) (picked P ts)))
    (in_trans (get_or ts p 0) (picked P ts) (picked P ss ∪ picked P ts) (picked_has P ts p e) (in_right (picked P ss) (picked P ts))))))
    (union_in (picked P ss) (picked P ts) (picked P (both ss ts))
    (picked_in P ss (picked P (both ss ts)) (λ p e.
    in_trans (get_or ss p 0) (get_or (both ss ts) p 0) (picked P (both ss ts))
    (rw (get_both ss ts p) (in_left (get_or ss p 0) (get_or ts p 0))) (picked_has P (both ss ts) p e)))
    (picked_in P ts (picked P (both ss ts)) (λ p e.
    in_trans (get_or ts p 0) (get_or (both ss ts) p 0) (picked P (both ss ts))
    (rw (get_both ss ts p) (in_right (get_or ss p 0) (get_or ts p 0))) (picked_has P (both ss ts) p e))))

-- ---- the joins, step by step

pub carry-length : (rules : Rules) {lines after : Listing} {attempts : List Attempt} → Along lines attempts after → (sets : List ℕ)
    → length sets ≡ length lines → length (carry rules lines attempts sets) ≡ length after
unfolding carry when◌then◌else◌
carry-length rules rest sets e = e
carry-length rules (stays p) sets e = carry-length rules p sets e
carry-length rules {lines = lines} (joins {left = left} {i = i} {js = js} h f j p) sets e =
    let step : List ℕ = join_cautions rules lines (success i js left) in
    let z = join-length rules lines (success i js left) in
    let y = both-length sets step (omega (arith, z, e)) in
    let x = hand_on-length i js (both sets step) (omega (arith, y, e)) in
    carry-length rules p (hand_on i js (both sets step)) (omega (arith, x, y, e, f))

pub carry_at : (rules : Rules) {lines after : Listing} {attempts : List Attempt} → Along lines attempts after → (sets : List ℕ)
    → length sets ≡ length lines → (q : ℕ)
    → get_or (carry rules lines attempts sets) q 0 ≡ picked (λ p. comes_to attempts p q) sets ∪ joined rules lines attempts q
unfolding carry joined comes_to when◌then◌else◌
carry_at rules rest sets e q = sym (or_zero_r (picked (λ p. eqb p q) sets) ∙ picked_one q sets)
carry_at rules (stays p) sets e q = carry_at rules p sets e q
carry_at rules {lines = lines} (joins {left = left} {i = i} {js = js} {more = more} h f j p) sets e q =
    let step : List ℕ = join_cautions rules lines (success i js left) in
    let ss : List ℕ = both sets step in
    let z = join-length rules lines (success i js left) in
    let y : length ss ≡ length lines = both-length sets step (omega (arith, z, e)) ∙ e in
    let x = hand_on-length i js ss (omega (arith, y)) in
    let P : ℕ → Bool = through i js left more q in
    carry_at rules p (hand_on i js ss) (omega (arith, x, y, f)) q
    ∙ ap (λ (n : ℕ). n ∪ joined rules left more q) (handed i js left more q ss (subst (λ (n : ℕ). Joined i n js) (sym y) j) ∙ picked-both P sets step)
    ∙ or_assoc (picked P sets) (picked P step) (joined rules left more q)

-- ---- the cuts

-- each cut is of a listing of n lines
pub cuts_long : (rules : Rules) (labels : Labels) (n i : ℕ) (lines : Listing) → All (λ (c : Cut). length c.before ≡ length lines) (cuts_made rules labels n i lines)
unfolding cuts_made
cuts_long rules labels zero i lines = tt
cuts_long rules labels (suc n) i lines =
    by-if (λ (cs : List Cut). All (λ (c : Cut). length c.before ≡ length lines) cs)
    (λ e. (
      refl,
      subst (λ (k : ℕ). All (λ (c : Cut). length c.before ≡ k) (cuts_made rules labels n (suc i) (modify i (λ l. with_tokens (drop 2 l.tokens) l) lines)))
          (length-modify (λ l. with_tokens (drop 2 l.tokens) l) i lines)
          (cuts_long rules labels n (suc i) (modify i (λ l. with_tokens (drop 2 l.tokens) l) lines)),
    ))
    (λ e. cuts_long rules labels n (suc i) lines)

cut-length : (rules : Rules) (lines : Listing) (i : ℕ) → length (cut_cautions rules lines i) ≡ length lines
unfolding cut_cautions
cut-length rules lines i = spread-length rules lines _ i _ _ _ _ _

pub with_cuts-length : (rules : Rules) (n : ℕ) (cuts : List Cut) → All (λ (c : Cut). length c.before ≡ n) cuts → (sets : List ℕ) → length sets ≡ n
    → length (with_cuts rules cuts sets) ≡ n
unfolding with_cuts
with_cuts-length rules n [] h sets e = e
with_cuts-length rules n (c ∷ cuts) h sets e =
    let z = cut-length rules c.before c.line in
    with_cuts-length rules n cuts h.1 (both sets (cut_cautions rules c.before c.line))
    (both-length sets (cut_cautions rules c.before c.line) (omega (arith, z, h.0, e)) ∙ e)

-- ---- the run

zeros : (lines : Listing) (p : ℕ) → get_or (none_yet lines) p 0 ≡ 0
zeros [] p = refl
zeros (l ∷ lines) zero = refl
zeros (l ∷ lines) (suc p) = zeros lines p

picked-zeros : (P : ℕ → Bool) (lines : Listing) → picked P (none_yet lines) ≡ 0
picked-zeros P lines =
    in_both (picked P (none_yet lines)) 0
    (picked_in P (none_yet lines) 0 (λ p e. subst (λ (s : ℕ). s ⊆ 0) (sym (zeros lines p)) refl))
    refl

pub places_from-length : (i : ℕ) (lines : Listing) → length (places_from i lines) ≡ length lines
unfolding places_from
places_from-length i [] = refl
places_from-length i (l ∷ lines) = ap suc (places_from-length (suc i) lines)

place_at : (f : ℕ → ℕ) (i : ℕ) (lines : Listing) (q : ℕ) → q < length lines → get_or (map f (places_from i lines)) q 0 ≡ f (i + q)
unfolding places_from
place_at f i [] q h = absurd (omega arith)
place_at f i (l ∷ lines) zero h = let z : i ≡ i + 0 = omega arith in ap f z
place_at f i (l ∷ lines) (suc q) h = let z : suc i + q ≡ i + suc q = omega arith in place_at f (suc i) lines q (omega arith) ∙ ap f z

pub by_place_at : (f : ℕ → ℕ) (lines : Listing) (q : ℕ) → q < length lines → get_or (map f (places lines)) q 0 ≡ f q
by_place_at f lines q h = let z : 0 + q ≡ q = omega arith in place_at f 0 lines q h ∙ ap f z

-- THE CAUTIONS OF THE JOINS, KEPT STEP BY STEP
carried : (rules : Rules) (input : Listing)
    → carry rules input (attempts_of (run rules input)) (none_yet input)
    ≡ map (joined rules input (attempts_of (run rules input))) (places (uncut rules input))
carried rules input =
    let all : List Attempt = attempts_of (run rules input) in
    let along = run_along rules input in
    let none : List ℕ = none_yet input in
    let here : length none ≡ length input = length-map input (λ l. 0) in
    let long : length (carry rules input all none) ≡ length (uncut rules input) = carry-length rules along none here in
    let by-sources : List ℕ = map (joined rules input all) (places (uncut rules input)) in
    ext_get_or 0 (carry rules input all none) by-sources
    (long ∙ sym (length-map (places (uncut rules input)) (joined rules input all) ∙ places_from-length 0 (uncut rules input)))
    (λ q h.
    carry_at rules along none here q
    ∙ ap (λ (s : ℕ). s ∪ joined rules input all q) (picked-zeros (λ p. comes_to all p q) input)
    ∙ sym (by_place_at (joined rules input all) (uncut rules input) q (omega (arith, long))))

pub bytes-length : (sets : List ℕ) → length (caution_bytes sets) ≡ 2 * length sets
unfolding caution_bytes flat_map to_le_bytes
bytes-length [] = refl
bytes-length (s ∷ sets) = let r = bytes-length sets in omega (arith, r)

-- THE CAUTIONS KEPT STEP BY STEP ARE THOSE OF THE DEFINITION, one set for each finished line
pub kept_as : (rules : Rules) (input : Listing) → Kept rules input
unfolding kept_cautions finished_cautions
kept_as rules input =
    let after : Listing = uncut rules input in
    let sets : List ℕ = map (joined rules input (attempts_of (run rules input))) (places after) in
    let long : length sets ≡ length after = length-map (places after) _ ∙ places_from-length 0 after in
    let each : length (finished_cautions rules input) ≡ length (finished rules input) =
    with_cuts-length rules (length after) (cuts_of rules input) (cuts_long rules (labels_from 0 after) (length after) 0 after) sets long
    ∙ sym (uncut_length rules input) in
    record {
      each = each;
      small = finished_small rules input;
      same = ap (with_cuts rules (cuts_of rules input)) (carried rules input);
      written = bytes-length (finished_cautions rules input) ∙ ap (λ (n : ℕ). 2 * n) each;
    }
