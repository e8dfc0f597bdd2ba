-- M-106's promise, proved: every listing of the run of a straight listing, with the profile, is straight and returns the same; and so it is without the
-- profile where each right side suits its use (crate cautions, proofs/Silent). Assumes nothing.
use Prim.Native.Nat.{ℕ, zero, suc, ◌%◌, ◌^◌}
use mathlib.Core.Path.{◌≡◌, refl, ap, ◌∙◌, subst⁻¹}
use mathlib.Core.Bool.{true, false}
use mathlib.Core.List.{List, [], ◌∷◌, ◌++◌, map, flatten}
use mathlib.Core.Option.{Option, none}
use Rattle.reference.specs.Control.{◌and◌, let_some◌else◌then◌}
use Rattle.reference.specs.Text.{Text}
use Rattle.reference.specs.Listing.{Listing, ◌at◌}
use Rattle.reference.specs.Rules.{Rules}
use Rattle.reference.specs.Shapes.{call_in}
use Rattle.reference.specs.Life.{Labels}
use Rattle.reference.specs.Run.{Attempt, after_attempts, after_rounds, dead_result, last_of, run, attempts_of, steps, listings, finished}
use Rattle.reference.specs.Marks.{finished_marks}
use Rattle.reference.specs.Tape.{write}
use Rattle.reference.specs.Questions.{Passed, read, marks_in}
use Rattle.reference.specs.Reply.{Cleaned, reply}
use Rattle.reference.specs.Demand.{Attempts, over, failed, succeeded, Rounds, enough, ended, again, Cuts, done, kept, dropped, Each}
use Rattle.reference.specs.Evaluators.{modulo, Store}
use Rattle.reference.specs.Straight.{execute, returned, breaks}
use Rattle.reference.proofs.Cases.{true-false}
use Rattle.reference.proofs.Rounds.{run-taken}
use Rattle.reference.proofs.Guarantee.{answered}
use Rattle.straight.specs.Meaning.{Means, Meaning}
use Rattle.straight.proofs.Flow.{Straight, last, next, straight_returns}
use Rattle.straight.proofs.Life.{assigns-no_call, returns-no_call}
use Rattle.straight.proofs.Attempt.{Keeps, Suited, profile-suited, attempt_keeps}
use Rattle.straight.proofs.Profile.{straight_of, of_straight}

-- ---- lists of listings

each_map : (P Q : Listing → Type 0) → ((l : Listing) → P l → Q l) → (ls : List Listing) → Each P ls → Each Q ls
each_map P Q f [] e = tt
each_map P Q f (l ∷ ls) e = (f l e.0, each_map P Q f ls e.1)

each_append : (P : Listing → Type 0) (ls ms : List Listing) → Each P ls → Each P ms → Each P (ls ++ ms)
each_append P [] ms e f = f
each_append P (l ∷ ls) ms e f = (e.0, each_append P ls ms e.1 f)

each_last : (P : Listing → Type 0) (l : Listing) (ls : List Listing) → P l → Each P ls → P (last_of l ls)
unfolding last_of
each_last P l [] p e = p
each_last P l (m ∷ ls) p e = each_last P m ls e.0 e.1

-- ---- where each attempt's right side suits its use

-- of the attempts that succeed, the first being made at these lines
abbrev pub AllSuited : Rules → Listing → List Attempt → Type 0
AllSuited rules lines [] = Unit {0}
AllSuited rules lines (a ∷ more) = (a.removed ≡ true → Suited rules lines a.line) × AllSuited rules a.left more

profile-all : (rules : Rules) → rules.profile ≡ true → (lines : Listing) (attempts : List Attempt) → AllSuited rules lines attempts
profile-all rules on lines [] = tt
profile-all rules on lines (a ∷ more) = (λ e. profile-suited rules on lines a.line, profile-all rules on a.left more)

suited-parts : (rules : Rules) (lines : Listing) (round more : List Attempt) → AllSuited rules lines (round ++ more)
    → AllSuited rules lines round × AllSuited rules (after_attempts lines round) more
unfolding after_attempts
suited-parts rules lines [] more a = (tt, a)
suited-parts rules lines (b ∷ round) more a = let r = suited-parts rules b.left round more a.1 in ((a.0, r.0), r.1)

module _ (indent : ℕ) where
  keeps_self : {ls : Listing} → Straight indent ls → Keeps indent ls ls
  keeps_self s = (s, λ σ. refl)

  keeps_on : (ls ms : Listing) → Keeps indent ls ms → (ns : Listing) → Keeps indent ms ns → Keeps indent ls ns
  keeps_on ls ms p ns q = (q.0, λ σ. q.1 σ ∙ p.1 σ)

  -- ---- a round

  record KeptRound (lines : Listing) (round : List Attempt) : Type 0 where
    each : Each (Keeps indent lines) (map (λ a. a.left) round)
    after : Keeps indent lines (after_attempts lines round)

  record Kept (lines : Listing) (rounds : List (List Attempt)) : Type 0 where
    each : Each (Keeps indent lines) (map (λ a. a.left) (flatten rounds))
    after : Keeps indent lines (after_rounds lines rounds)

  -- what the attempts of a round leave, and then those of others
  each_lefts : (lines : Listing) (round more : List Attempt) → Each (Keeps indent lines) (map (λ a. a.left) round) → Each (Keeps indent lines) (map (λ a. a.left) more)
      → Each (Keeps indent lines) (map (λ a. a.left) (round ++ more))
  each_lefts lines [] more e f = f
  each_lefts lines (a ∷ round) more e f = (e.0, each_lefts lines round more e.1 f)

  module _ (rules : Rules) where
    attempts-keep : {addressed : List Text} {i : ℕ} {lines : Listing} {labels : Labels} {round : List Attempt} → Attempts rules addressed i lines labels round
        → AllSuited rules lines round → Straight indent lines → KeptRound lines round
    unfolding after_attempts
    attempts-keep (over h) a s = record { each = tt; after = keeps_self s }
    attempts-keep (failed h e more) a s =
        let r = attempts-keep more a.1 s in record { each = (keeps_self s, r.each); after = r.after }
    attempts-keep {addressed} (succeeded {i = i} {lines = lines} {lines' = lines'} {labels = labels} {more = tail} h e more) a s =
        let k = attempt_keeps rules lines i (a.0 refl) indent s labels addressed e in
        let r = attempts-keep more a.1 k.0 in
        record { each = (k, each_map (Keeps indent lines') (Keeps indent lines) (keeps_on lines lines' k) (map (λ a. a.left) tail) r.each); after = keeps_on lines lines' k _ r.after }

    -- ---- rounds, as many as there are

    rounds-keep : {limit : ℕ} {lines : Listing} {rounds : List (List Attempt)} → Rounds rules limit lines rounds → AllSuited rules lines (flatten rounds) → Straight indent lines
        → Kept lines rounds
    unfolding after_rounds flatten
    rounds-keep enough a s = record { each = tt; after = keeps_self s }
    rounds-keep (ended {lines = lines} {round = round} r e) a s =
        let k = attempts-keep r (suited-parts rules lines round [] a).0 s in
        record { each = each_lefts lines round [] k.each tt; after = k.after }
    rounds-keep (again {lines = lines} {round = round} {more = more} r e rest) a s =
        let parts = suited-parts rules lines round (flatten more) a in
        let k = attempts-keep r parts.0 s in
        let m = rounds-keep rest parts.1 k.after.0 in
        let lines' : Listing = after_attempts lines round in
        record {
          each =
              each_lefts lines round (flatten more) k.each
              (each_map (Keeps indent lines') (Keeps indent lines) (keeps_on lines lines' k.after) (map (λ a. a.left) (flatten more)) m.each);
          after = keeps_on lines lines' k.after _ m.after;
        }

    -- ---- no cuts

    no_call : {lines : Listing} (i : ℕ) → Straight indent lines → call_in (lines at i).tokens ≡ none
    unfolding call_in
    no_call zero (last {l = l} e r) = returns-no_call l.tokens r
    no_call (suc i) (last e r) = refl
    no_call zero (next {l = l} y e a more) = assigns-no_call l.tokens y a
    no_call (suc i) (next y e a more) = no_call i more

    not-cut : {lines : Listing} (labels : Labels) (i : ℕ) → Straight indent lines → dead_result rules labels lines i ≡ false
    unfolding dead_result let_some◌else◌then◌ ◌and◌
    not-cut labels i s = rw (no_call i s)

    no_cuts : {labels : Labels} {i : ℕ} {lines : Listing} {cuts : List Listing} → Cuts rules labels i lines cuts → Straight indent lines → cuts ≡ []
    no_cuts (done h) s = refl
    no_cuts (kept h e more) s = no_cuts more s
    no_cuts {labels} (dropped {i = i} h e same more) s = absurd (true-false e (not-cut labels i s))

    -- ---- the run

    run_keeps : (input : Listing) → AllSuited rules input (attempts_of (run rules input)) → Straight indent input → Each (Keeps indent input) (steps (run rules input))
    unfolding steps attempts_of
    run_keeps input a s =
        let t = run-taken rules input in
        let r = run rules input in
        let k = rounds-keep t.rounds a s in
        let none-cut : r.cuts ≡ [] = no_cuts t.cuts k.after.0 in
        each_append (Keeps indent input) (map (λ a. a.left) (flatten r.rounds)) r.cuts k.each (subst⁻¹ (Each (Keeps indent input)) none-cut tt)

-- A STRAIGHT LISTING OF WHICH EACH JOIN SUITS RETURNS THE SAME AFTER CLEANING
pub suited-means : (rules : Rules) (input : Listing) → AllSuited rules input (attempts_of (run rules input)) → breaks input ≡ none → Meaning rules input
unfolding listings finished
suited-means rules input a h =
    let s = straight_of input h in
    let indent = s.0 in
    let k = run_keeps indent rules input a s.1 in
    let means : (l : Listing) → Keeps indent input l → Means input l = λ l q. record { in_profile = of_straight q.0; returns = straight_returns q.0; same_value = λ σ. same l q.1 σ } in
    let all = each_map (Keeps indent input) (Means input) means (steps (run rules input)) k in
    let self : Means input input = record { in_profile = h; returns = straight_returns s.1; same_value = λ σ. refl } in
    record { each = (self, all); finished_means = each_last (Means input) input (steps (run rules input)) self all }
  where
    same : (l : Listing) → ((σ : Store) → execute modulo σ l ≡ execute modulo σ input) → (σ : Store) → returned σ l ≡ returned σ input
    same l e σ = unfold returned in ap (λ (o : Option ℕ). (let_some o else 0 then λ v. v) % 2 ^ 64) (e σ)

-- ---- M-106

-- THE RETURNED VALUE, MODULO 2^64, IS THE SAME BEFORE AND AFTER CLEANING
pub cleaning_means : (rules : Rules) → rules.profile ≡ true → (input : Listing) → breaks input ≡ none → Meaning rules input
cleaning_means rules on input h = suited-means rules input (profile-all rules on input (attempts_of (run rules input))) h

-- THE SAME OF A CALL: with the profile, where it is not refused
pub call-means : (rules : Rules) → rules.profile ≡ true → (tape : List ℕ) (work_a work_b output : ℕ) (c : Cleaned) → reply rules tape work_a work_b output ≡ Passed c
    → (input : Listing) × (read tape ≡ Passed input) × (c.tape ≡ write (finished rules input) (finished_marks rules input (marks_in tape))) × Meaning rules input
call-means rules on tape work_a work_b output c e =
    let a = answered rules tape work_a work_b output c e in
    (a.input, a.reads, ap (λ (x : Cleaned). x.tape) a.cleaned, cleaning_means rules on a.input (a.in_profile on))
