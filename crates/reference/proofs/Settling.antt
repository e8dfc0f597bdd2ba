-- A run that is to settle (M-112): with n lines it makes at most n + 1 rounds, the last of which changed nothing, so that one further round before the
-- cuts would change no byte, marks included; a higher limit gives the same run. And the three-round setting is what it was: the listing and the counts of the
-- definitions before M-112, which stand here word for word. Assumes nothing.
use Prim.Native.Nat.{ℕ, zero, suc, ◌+◌, ◌≤◌}
use native.Mathlib.Omega.{arith}
use mathlib.Core.Path.{◌≡◌, refl, ap, ◌∙◌}
use mathlib.Core.Bool.{Bool, true, false, true≢false}
use mathlib.Core.List.{List, [], ◌∷◌, ◌++◌, map, map-append, flatten, append_assoc, append-nil}
use lib.ListN.{length, get_or}
use Rattle.reference.specs.Control.{when◌then◌else◌}
use Rattle.reference.specs.Text.{Text}
use Rattle.reference.specs.Listing.{Listing}
use Rattle.reference.specs.Rules.{Rules}
use Rattle.reference.specs.Life.{Labels}
use Rattle.reference.specs.Run.{Attempt, propagate_once, after_attempts, removals, changed, rounds_from, limit, after_rounds, drop_dead_results, last_of, run}
use Rattle.reference.specs.Run.{attempts_of, steps, finished, Tally, three, settled, Counts, attempts_in, counts}
use Rattle.reference.specs.Spans.{Marks}
use Rattle.reference.specs.Marks.{carry}
use Rattle.reference.specs.Tape.{write}
use Rattle.reference.specs.Demand.{Attempts, over, failed, succeeded, Round, Rounds, enough, ended, again, Settled, Bounded, EachRound, Demand3}
use Rattle.reference.proofs.Cases.{by-if, neither, true-false}
use Rattle.reference.proofs.Rounds.{round_taken, rounds-taken, run-taken, rounds-settle}

-- ---- how many rounds

rounds-few : {rules : Rules} {limit : ℕ} {lines : Listing} {rounds : List (List Attempt)} → Rounds rules limit lines rounds → length rounds ≤ limit
rounds-few enough = omega arith
rounds-few (ended h e) = omega arith
rounds-few (again h e more) = omega (arith, rounds-few more)

settled_some : (rounds : List (List Attempt)) → Settled rounds → 1 ≤ length rounds
settled_some [] h = absurd h
settled_some (round ∷ more) h = omega arith

limit-settling : (rules : Rules) (input : Listing) → rules.settle ≡ true → limit rules input ≡ length input + 1
unfolding limit
limit-settling rules input e = by-if (λ (n : ℕ). n ≡ length input + 1) (λ h. refl) (λ h. absurd (true-false e h))

limit-three : (rules : Rules) (input : Listing) → rules.settle ≡ false → limit rules input ≡ 3
unfolding limit
limit-three rules input e = by-if (λ (n : ℕ). n ≡ 3) (λ h. absurd (true-false h e)) (λ h. refl)

-- WITH n LINES AT LEAST ONE ROUND AND AT MOST n + 1
pub few-rounds : (rules : Rules) (input : Listing) → rules.settle ≡ true
    → (1 ≤ length (run rules input).rounds) × (length (run rules input).rounds ≤ length input + 1)
few-rounds rules input e =
    let t = run-taken rules input in
    (settled_some (run rules input).rounds (t.settles e), omega (arith, rounds-few t.rounds, limit-settling rules input e))

-- ---- the limit does not matter

settled-rest : (round : List Attempt) (more : List (List Attempt)) → changed round ≡ true → Settled (round ∷ more) → Settled more
settled-rest round [] e s = true-false e s
settled-rest round (after ∷ more) e s = s

-- ROUNDS OF WHICH THE LAST CHANGED NOTHING ARE THE SAME WITH A HIGHER LIMIT
pub higher_limit : (rules : Rules) (m k : ℕ) (lines : Listing) → Settled (rounds_from rules m lines) → m ≤ k → rounds_from rules k lines ≡ rounds_from rules m lines
unfolding rounds_from when◌then◌else◌
higher_limit rules zero k lines s le = absurd s
higher_limit rules (suc m) zero lines s le = absurd (omega arith)
higher_limit rules (suc m) (suc k) lines s le =
    let round : List Attempt = propagate_once rules lines in
    let left : Listing = after_attempts lines round in
    ap (λ (more : List (List Attempt)). round ∷ more)
    (go round (rounds_from rules m left) (rounds_from rules k left) (changed round) refl s (λ s. higher_limit rules m k left s (omega arith)))
  where
    go : (round : List Attempt) (more more' : List (List Attempt)) (b : Bool) → changed round ≡ b → Settled (round ∷ (when b then more else []))
        → (Settled more → more' ≡ more) → (when b then more' else []) ≡ (when b then more else [])
    go round more more' true e s h = h (settled-rest round more e s)
    go round more more' false e s h = refl

-- THE LIMIT n + 1 IS NEVER WHAT ENDS A RUN THAT IS TO SETTLE: with any higher one it is the same
pub no_limit : (rules : Rules) (k : ℕ) (input : Listing) → rules.settle ≡ true → length input + 1 ≤ k → rounds_from rules k input ≡ (run rules input).rounds
unfolding run
no_limit rules k input e le =
    let n : ℕ = length input + 1 in
    rw (limit-settling rules input e) (higher_limit rules n k input (rounds-settle (rounds-taken rules n input) (omega arith)) le)

-- ---- one round more

idle_leaves : {rules : Rules} {addressed : List Text} {i : ℕ} {lines : Listing} {labels : Labels} {round : List Attempt}
    → Attempts rules addressed i lines labels round → changed round ≡ false → after_attempts lines round ≡ lines
unfolding after_attempts changed
idle_leaves (over h) e = refl
idle_leaves (failed h f more) e = idle_leaves more (neither e).1
idle_leaves (succeeded h f more) e = absurd (true≢false (neither e).0)

-- a round on this listing changes nothing
pub record Idle (rules : Rules) (lines : Listing) : Type 0 where
  pub changes_nothing : changed (propagate_once rules lines) ≡ false
  pub left : after_attempts lines (propagate_once rules lines) ≡ lines

settled_idle : (rules : Rules) (m : ℕ) (lines : Listing) → Settled (rounds_from rules m lines) → Idle rules (after_rounds lines (rounds_from rules m lines))
unfolding rounds_from after_rounds
settled_idle rules zero lines s = absurd s
settled_idle rules (suc m) lines s =
    let round : List Attempt = propagate_once rules lines in
    by-if (λ (more : List (List Attempt)). Settled (round ∷ more) → Idle rules (after_rounds (after_attempts lines round) more))
    (λ h s. settled_idle rules m (after_attempts lines round) (settled-rest round (rounds_from rules m (after_attempts lines round)) h s))
    (λ h s. (let same = idle_leaves (round_taken rules lines) h in rw same (record { changes_nothing = h; left = same })))
    s

-- ONE FURTHER ROUND BEFORE THE CUTS WOULD CHANGE NOTHING, and so no byte of the listing's tape
pub nothing_left : (rules : Rules) (input : Listing) → rules.settle ≡ true → Idle rules (after_rounds input (run rules input).rounds)
unfolding run
nothing_left rules input e = settled_idle rules (limit rules input) input ((run-taken rules input).settles e)

idle_carries : (round : List Attempt) → changed round ≡ false → (marks : List Marks) → carry round marks ≡ marks
unfolding changed carry when◌then◌else◌
idle_carries [] e marks = refl
idle_carries (a ∷ more) e marks = rw (neither e).0 (idle_carries more (neither e).1 marks)

-- ... whatever marks its lines have, which that round would carry on
pub no_byte : (rules : Rules) (input : Listing) → rules.settle ≡ true → (marks : List Marks)
    → let lines = after_rounds input (run rules input).rounds in
    let round = propagate_once rules lines in
    write (after_attempts lines round) (carry round marks) ≡ write lines marks
no_byte rules input e marks =
    let idle = nothing_left rules input e in
    λ i. write (idle.left i) (idle_carries _ idle.changes_nothing marks i)

-- ---- the three-round setting, beside the definitions before M-112

-- a round that runs only if the one before it changed something
unfoldable pub next_round : Rules → List Attempt → Listing → List Attempt
next_round rules before lines = when changed before then propagate_once rules lines else []

pub record Before112 : Type 0 where
  pub first : List Attempt
  pub second : List Attempt
  pub third : List Attempt
  pub cuts : List Listing

unfoldable pub run-before : Rules → Listing → Before112
run-before rules lines =
    let r₁ : List Attempt = propagate_once rules lines in
    let l₁ : Listing = after_attempts lines r₁ in
    let r₂ : List Attempt = next_round rules r₁ l₁ in
    let l₂ : Listing = after_attempts l₁ r₂ in
    let r₃ : List Attempt = next_round rules r₂ l₂ in
    let l₃ : Listing = after_attempts l₂ r₃ in
    record { first = r₁; second = r₂; third = r₃; cuts = drop_dead_results rules l₃ }

unfoldable pub steps-before : Before112 → List Listing
steps-before r = map (λ a. a.left) r.first ++ map (λ a. a.left) r.second ++ map (λ a. a.left) r.third ++ r.cuts

-- ... and the counts that they gave
unfoldable pub counts-before : Before112 → Counts
counts-before r =
    record {
      tally = three (length r.first) (length r.second) (length r.third);
      lines_removed = removals r.first + removals r.second + removals r.third;
      results_cut = length r.cuts;
    }

-- rounds that are these three, an empty one being one that was not made
record AreThree (lines : Listing) (rounds : List (List Attempt)) (a b c : List Attempt) : Type 0 where
  all : flatten rounds ≡ a ++ b ++ c
  left : after_rounds lines rounds ≡ after_attempts (after_attempts (after_attempts lines a) b) c
  first : attempts_in 0 rounds ≡ length a
  second : attempts_in 1 rounds ≡ length b
  third : attempts_in 2 rounds ≡ length c

module _ (rules : Rules) (lines : Listing) where
  last_of-three : (a b : List Attempt) (h : Bool)
      → let l = after_attempts (after_attempts lines a) b in
      AreThree lines (a ∷ b ∷ (when h then rounds_from rules 1 l else [])) a b (when h then propagate_once rules l else [])
  unfolding when◌then◌else◌ rounds_from flatten after_rounds attempts_in after_attempts
  last_of-three a b true =
      let l : Listing = after_attempts (after_attempts lines a) b in
      let c : List Attempt = propagate_once rules l in
      let all : a ++ (b ++ (c ++ [])) ≡ a ++ b ++ c = simp (append_assoc, append-nil) in
      let three : AreThree lines (a ∷ b ∷ c ∷ []) a b c = record { all = all; left = refl; first = refl; second = refl; third = refl } in
      by-if (λ (more : List (List Attempt)). AreThree lines (a ∷ b ∷ c ∷ more) a b c) {b = changed c} (λ e. three) (λ e. three)
  last_of-three a b false = record { all = simp (append_assoc, append-nil); left = refl; first = refl; second = refl; third = refl }

  last_two_of-three : (a : List Attempt) (h : Bool)
      → let l = after_attempts lines a in
      let b = when h then propagate_once rules l else [] in
      AreThree lines (a ∷ (when h then rounds_from rules 2 l else [])) a b (next_round rules b (after_attempts l b))
  unfolding when◌then◌else◌ rounds_from flatten after_rounds attempts_in after_attempts next_round changed
  last_two_of-three a true =
      let b : List Attempt = propagate_once rules (after_attempts lines a) in
      last_of-three a b (changed b)
  last_two_of-three a false = record { all = simp append-nil; left = refl; first = refl; second = refl; third = refl }

  are-three : AreThree lines (rounds_from rules 3 lines) (run-before rules lines).first (run-before rules lines).second (run-before rules lines).third
  unfolding rounds_from run-before next_round
  are-three = last_two_of-three (propagate_once rules lines) (changed (propagate_once rules lines))

removals_append : (xs ys : List Attempt) → removals (xs ++ ys) ≡ removals xs + removals ys
unfolding removals when◌then◌else◌
removals_append [] ys = omega arith
removals_append (a ∷ xs) ys = go a.removed (removals (xs ++ ys)) (removals xs) (removals ys) (removals_append xs ys)
  where
    go : (b : Bool) (m n k : ℕ) → m ≡ n + k → (when b then suc m else m) ≡ (when b then suc n else n) + k
    go true m n k e = omega arith
    go false m n k e = e

module _ (rules : Rules) (lines : Listing) (off : rules.settle ≡ false) where
  rounds-three : (run rules lines).rounds ≡ rounds_from rules 3 lines
  unfolding run
  rounds-three = rw (limit-three rules lines off)

  cuts-three : (run rules lines).cuts ≡ (run-before rules lines).cuts
  unfolding run run-before
  cuts-three = ap (drop_dead_results rules) (rw (limit-three rules lines off) (are-three rules lines).left)

  -- IN THE THREE-ROUND SETTING THE LISTINGS OF THE RUN ARE THOSE OF BEFORE, IN ORDER
  pub steps-three : steps (run rules lines) ≡ steps-before (run-before rules lines)
  unfolding steps attempts_of steps-before
  steps-three = rw (cuts-three, rounds-three, (are-three rules lines).all, map-append, map-append)

  -- SO IS THE FINISHED ONE
  pub finished-three : finished rules lines ≡ last_of lines (steps-before (run-before rules lines))
  unfolding finished
  finished-three = ap (last_of lines) steps-three

  -- AND SO ARE THE COUNTS
  pub counts-three : counts rules (run rules lines) ≡ counts-before (run-before rules lines)
  unfolding counts counts-before attempts_of
  counts-three =
      let before = run-before rules lines in
      let rounds : List (List Attempt) = (run rules lines).rounds in
      let t : AreThree lines rounds before.first before.second before.third = rw rounds-three (are-three rules lines) in
      let removed : removals (flatten rounds) ≡ removals before.first + removals before.second + removals before.third =
      ap removals t.all
      ∙ removals_append (before.first ++ before.second) before.third
      ∙ ap (λ (n : ℕ). n + removals before.third) (removals_append before.first before.second) in
      let tally : (when rules.settle
      then settled (length rounds) (length (flatten rounds))
      else three (attempts_in 0 rounds) (attempts_in 1 rounds) (attempts_in 2 rounds))
      ≡ three (length before.first) (length before.second) (length before.third) =
      by-if (λ (x : Tally). x ≡ three (length before.first) (length before.second) (length before.third))
      (λ h. absurd (true-false h off))
      (λ h i. three (t.first i) (t.second i) (t.third i)) in
      λ i. record { tally = tally i; lines_removed = removed i; results_cut = length (cuts-three i) }

-- ---- demand 3 says no less of three rounds than before

-- the round after the round `before`, as demand 3 had it
pub record NextRound (rules : Rules) (before : List Attempt) (lines : Listing) (round : List Attempt) : Type 0 where
  pub made : changed before ≡ true → Round rules lines round
  pub ended : changed before ≡ false → round ≡ []

abbrev pub nth : List (List Attempt) → ℕ → List Attempt
nth rounds k = get_or rounds k []

-- clauses (1) and (9) as they were, of the first, the second and the third round, an empty one being one that was not made
pub record OfThree (rules : Rules) (l₀ : Listing) (first second third : List Attempt) : Type 0 where
  pub first_taken : Round rules l₀ first
  pub second_taken : NextRound rules first (after_attempts l₀ first) second
  pub third_taken : NextRound rules second (after_attempts (after_attempts l₀ first) second) third
  pub first_bounded : Bounded l₀ first
  pub second_bounded : Bounded (after_attempts l₀ first) second
  pub third_bounded : Bounded (after_attempts (after_attempts l₀ first) second) third

not_made : (rules : Rules) (before : List Attempt) (lines : Listing) → changed before ≡ false → NextRound rules before lines []
not_made rules before lines e = record { made = λ t. absurd (true-false t e); ended = λ f. refl }

was-made : {rules : Rules} {lines : Listing} {round : List Attempt} (before : List Attempt) → changed before ≡ true → Round rules lines round → NextRound rules before lines round
was-made before e r = record { made = λ t. r; ended = λ f. absurd (true-false e f) }

empty-bounded : (lines : Listing) → Bounded lines []
unfolding after_attempts removals
empty-bounded lines = record { removes = omega arith; attempts = omega arith }

no_less : (rules : Rules) (n : ℕ) (input : Listing) (rounds : List (List Attempt)) → n ≡ 3 → Rounds rules n input rounds → EachRound Bounded input rounds
    → OfThree rules input (nth rounds 0) (nth rounds 1) (nth rounds 2)
unfolding after_attempts changed
no_less rules n input rounds h enough b = absurd (omega arith)
no_less rules n input rounds h (ended {round = r} t e) b =
    record {
      first_taken = t;
      second_taken = not_made rules r _ e;
      third_taken = not_made rules [] _ refl;
      first_bounded = b.0;
      second_bounded = empty-bounded _;
      third_bounded = empty-bounded _;
    }
no_less rules n input rounds h (again {round = r} t e enough) b = absurd (omega arith)
no_less rules n input rounds h (again {round = r} t e (ended {round = s} u f)) b =
    record {
      first_taken = t;
      second_taken = was-made r e u;
      third_taken = not_made rules s _ f;
      first_bounded = b.0;
      second_bounded = b.1.0;
      third_bounded = empty-bounded _;
    }
no_less rules n input rounds h (again {round = r} t e (again {round = s} u f enough)) b = absurd (omega arith)
no_less rules n input rounds h (again {round = r} t e (again {round = s} u f (ended {round = v} w g))) b =
    record {
      first_taken = t;
      second_taken = was-made r e u;
      third_taken = was-made s f w;
      first_bounded = b.0;
      second_bounded = b.1.0;
      third_bounded = b.1.1.0;
    }
no_less rules n input rounds h (again {round = r} t e (again {round = s} u f (again {round = v} w g more))) b =
    record {
      first_taken = t;
      second_taken = was-made r e u;
      third_taken = was-made s f w;
      first_bounded = b.0;
      second_bounded = b.1.0;
      third_bounded = b.1.1.0;
    }

pub three-taken : (rules : Rules) (input : Listing) → rules.settle ≡ false → Demand3 rules input
    → let rounds = (run rules input).rounds in OfThree rules input (nth rounds 0) (nth rounds 1) (nth rounds 2)
three-taken rules input off d = no_less rules (limit rules input) input (run rules input).rounds (limit-three rules input off) d.taken.rounds d.bounded
