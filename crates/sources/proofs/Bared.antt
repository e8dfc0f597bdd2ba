-- No step of a run looks at an address: without addresses the run of a listing is its run, with every listing in it without addresses. So two listings
-- that differ in addresses alone have runs of the same attempts, into the same lines, and of the same counts (`same_run`). Assumes nothing.
use Prim.Native.Nat.{ℕ, zero, suc, pred, ◌+◌}
use mathlib.Core.Path.{◌≡◌, refl, sym, ap, ◌∙◌}
use mathlib.Core.Bool.{Bool, true, false}
use mathlib.Core.List.{List, [], ◌∷◌, map, map-append, flatten}
use mathlib.Core.Option.{Option, none, some}
use lib.Dec.{ltb}
use lib.ListN.{length, length-map}
use Rattle.reference.specs.Control.{when◌then◌else◌, let_some◌else◌then◌}
use Rattle.reference.specs.Lists.{any}
use Rattle.reference.specs.Text.{Text}
use Rattle.reference.specs.Listing.{Listing}
use Rattle.reference.specs.Rules.{Rules}
use Rattle.reference.specs.Life.{Labels}
use Rattle.reference.specs.Join.{try_at, targets}
use Rattle.reference.specs.Straight.{breaks, breaks_from}
use Rattle.reference.specs.Run.{labels_from, addressed_in, shift, Attempt, failure, success, attempts_from, propagate_once, after_attempts, removals, changed, rounds_from, limit, after_rounds}
use Rattle.reference.specs.Run.{dead_result, cuts_from, drop_dead_results, last_of, Run, run, attempts_of, finished, attempts_in, counts}
use Rattle.reference.specs.Marks.{moved, comes_to}
use Rattle.reference.proofs.Marks.{finished_is}
use Rattle.laws.proofs.Scans.{any-map, count_map}
use Rattle.joining.specs.Bare.{bare, bare_lines}
use Rattle.joining.specs.Rounds.{cut_at}
use Rattle.joining.proofs.Bare.{try_at-bare, targets-bare, labels_bare, addressed-bare, dead_result-bare, cut-bare}

-- ---- a run without addresses

pub bare_attempt : Attempt → Attempt
bare_attempt a = record { line = a.line; removed = a.removed; into = a.into; left = bare_lines a.left }

pub bare-run : Run → Run
bare-run r = record { rounds = map (map bare_attempt) r.rounds; cuts = map bare_lines r.cuts }

-- ---- a round

module _ (rules : Rules) (addressed : List Text) where
  -- one attempt, where the law holds of what follows it
  step-bare : (fuel i : ℕ) (lines : Listing) (labels : Labels)
      → ((i : ℕ) (lines : Listing) (labels : Labels)
      → attempts_from rules addressed fuel i (bare_lines lines) labels ≡ map bare_attempt (attempts_from rules addressed fuel i lines labels))
      → attempts_from rules addressed (suc fuel) i (bare_lines lines) labels ≡ map bare_attempt (attempts_from rules addressed (suc fuel) i lines labels)
  unfolding attempts_from bare_attempt when◌then◌else◌ let_some◌else◌then◌
  step-bare fuel i lines labels next =
      rw (length-map lines bare, try_at-bare rules lines i labels addressed) (go (ltb i (length lines)) (try_at rules lines i labels addressed) refl)
    where
      go : (b : Bool) (o : Option Listing) → try_at rules lines i labels addressed ≡ o
          → (when b
          then (let_some (let_some o else none then λ lines'. some (bare_lines lines')) else (failure i (bare_lines lines) ∷ attempts_from rules addressed fuel (suc i) (bare_lines lines) labels)
          then λ lines'. success i (targets rules (bare_lines lines) i labels) lines' ∷ attempts_from rules addressed fuel (pred i) lines' (shift i labels))
          else [])
          ≡ map bare_attempt
          (when b
          then (let_some o else (failure i lines ∷ attempts_from rules addressed fuel (suc i) lines labels)
          then λ lines'. success i (targets rules lines i labels) lines' ∷ attempts_from rules addressed fuel (pred i) lines' (shift i labels))
          else [])
      go false o e = refl
      go true none e = ap (λ (r : List Attempt). failure i (bare_lines lines) ∷ r) (next (suc i) lines labels)
      go true (some lines') e =
          let into = targets-bare rules lines i labels addressed e in
          let more = next (pred i) lines' (shift i labels) in
          λ t. success i (into t) (bare_lines lines') ∷ more t

  attempts-bare : (fuel i : ℕ) (lines : Listing) (labels : Labels)
      → attempts_from rules addressed fuel i (bare_lines lines) labels ≡ map bare_attempt (attempts_from rules addressed fuel i lines labels)
  attempts-bare zero i lines labels = unfold attempts_from in refl
  attempts-bare (suc fuel) i lines labels = step-bare fuel i lines labels (attempts-bare fuel)

round_bare : (rules : Rules) (lines : Listing) → propagate_once rules (bare_lines lines) ≡ map bare_attempt (propagate_once rules lines)
unfolding propagate_once
round_bare rules lines =
    rw (length-map lines bare, addressed-bare lines, labels_bare 0 lines)
    (attempts-bare rules (addressed_in lines) (length lines + length lines) 0 lines (labels_from 0 lines))

after-bare : (lines : Listing) (round : List Attempt) → after_attempts (bare_lines lines) (map bare_attempt round) ≡ bare_lines (after_attempts lines round)
unfolding after_attempts bare_attempt
after-bare lines [] = refl
after-bare lines (a ∷ more) = after-bare a.left more

changed-bare : (round : List Attempt) → changed (map bare_attempt round) ≡ changed round
unfolding changed bare_attempt
changed-bare round = any-map (λ a. a.removed) bare_attempt round

-- ---- the rounds

rounds-bare : (rules : Rules) (limit : ℕ) (lines : Listing) → rounds_from rules limit (bare_lines lines) ≡ map (map bare_attempt) (rounds_from rules limit lines)
unfolding rounds_from
rounds-bare rules zero lines = refl
rounds-bare rules (suc limit) lines =
    let round : List Attempt = propagate_once rules lines in
    rw (round_bare rules lines, changed-bare round, after-bare lines round, rounds-bare rules limit (after_attempts lines round)) (go (changed round))
  where
    go : (b : Bool) → (map bare_attempt (propagate_once rules lines) ∷ (when b then map (map bare_attempt) (rounds_from rules limit (after_attempts lines (propagate_once rules lines))) else []))
        ≡ map (map bare_attempt) (propagate_once rules lines ∷ (when b then rounds_from rules limit (after_attempts lines (propagate_once rules lines)) else []))
    go true = unfold when◌then◌else◌ in refl
    go false = unfold when◌then◌else◌ in refl

after-rounds-bare : (lines : Listing) (rounds : List (List Attempt)) → after_rounds (bare_lines lines) (map (map bare_attempt) rounds) ≡ bare_lines (after_rounds lines rounds)
unfolding after_rounds
after-rounds-bare lines [] = refl
after-rounds-bare lines (round ∷ more) =
    ap (λ (l : Listing). after_rounds l (map (map bare_attempt) more)) (after-bare lines round) ∙ after-rounds-bare (after_attempts lines round) more

-- ---- the cuts

cuts-bare : (rules : Rules) (labels : Labels) (n i : ℕ) (lines : Listing) → cuts_from rules labels n i (bare_lines lines) ≡ map bare_lines (cuts_from rules labels n i lines)
unfolding cuts_from
cuts-bare rules labels zero i lines = refl
cuts-bare rules labels (suc n) i lines =
    rw (dead_result-bare rules labels lines i, cut-bare i lines, cuts-bare rules labels n (suc i) (cut_at i lines), cuts-bare rules labels n (suc i) lines)
    (go (dead_result rules labels lines i))
  where
    go : (b : Bool) → (when b then bare_lines (cut_at i lines) ∷ map bare_lines (cuts_from rules labels n (suc i) (cut_at i lines)) else map bare_lines (cuts_from rules labels n (suc i) lines))
        ≡ map bare_lines (when b then cut_at i lines ∷ cuts_from rules labels n (suc i) (cut_at i lines) else cuts_from rules labels n (suc i) lines)
    go true = unfold when◌then◌else◌ in refl
    go false = unfold when◌then◌else◌ in refl

-- ---- the run

-- WITHOUT ADDRESSES THE RUN IS THE SAME RUN
pub run-bare : (rules : Rules) (lines : Listing) → run rules (bare_lines lines) ≡ bare-run (run rules lines)
unfolding run limit drop_dead_results bare-run
run-bare rules lines =
    let rounds : List (List Attempt) = rounds_from rules (limit rules lines) lines in
    let last : Listing = after_rounds lines rounds in
    rw (length-map lines bare, rounds-bare rules (limit rules lines) lines, after-rounds-bare lines rounds, length-map last bare, labels_bare 0 last)
    (ap (λ (c : List Listing). record { rounds = map (map bare_attempt) rounds; cuts = c }) (cuts-bare rules (labels_from 0 last) (length last) 0 last))

last-bare : (lines : Listing) (ls : List Listing) → last_of (bare_lines lines) (map bare_lines ls) ≡ bare_lines (last_of lines ls)
unfolding last_of
last-bare lines [] = refl
last-bare lines (l ∷ ls) = last-bare l ls

-- and so is the finished listing
pub finished-bare : (rules : Rules) (lines : Listing) → finished rules (bare_lines lines) ≡ bare_lines (finished rules lines)
finished-bare rules lines =
    let r : Run = run rules lines in
    rw (finished_is rules (bare_lines lines), finished_is rules lines, run-bare rules lines)
    (unfold bare-run in ap (λ (l : Listing). last_of l (map bare_lines r.cuts)) (after-rounds-bare lines r.rounds) ∙ last-bare (after_rounds lines r.rounds) r.cuts)

-- ---- what is told of a run

flatten-bare : (rounds : List (List Attempt)) → flatten (map (map bare_attempt) rounds) ≡ map bare_attempt (flatten rounds)
unfolding flatten
flatten-bare [] = refl
flatten-bare (round ∷ more) = rw (flatten-bare more) (sym (map-append bare_attempt round (flatten more)))

attempts_of-bare : (r : Run) → attempts_of (bare-run r) ≡ map bare_attempt (attempts_of r)
unfolding attempts_of bare-run
attempts_of-bare r = flatten-bare r.rounds

any_ext : (P Q : ℕ → Bool) → ((j : ℕ) → P j ≡ Q j) → (js : List ℕ) → any P js ≡ any Q js
any_ext P Q h [] = refl
any_ext P Q h (j ∷ js) = rw (h j, any_ext P Q h js)

comes-bare : (all : List Attempt) (p q : ℕ) → comes_to (map bare_attempt all) p q ≡ comes_to all p q
unfolding comes_to bare_attempt
comes-bare [] p q = refl
comes-bare (a ∷ more) p q =
    rw (comes-bare more p q, comes-bare more (moved a.line p) q, any_ext _ _ (λ j. comes-bare more (moved a.line j) q) a.into)

attempts_in-bare : (k : ℕ) (rounds : List (List Attempt)) → attempts_in k (map (map bare_attempt) rounds) ≡ attempts_in k rounds
unfolding attempts_in
attempts_in-bare k [] = refl
attempts_in-bare zero (round ∷ more) = length-map round bare_attempt
attempts_in-bare (suc k) (round ∷ more) = attempts_in-bare k more

removals-bare : (all : List Attempt) → removals (map bare_attempt all) ≡ removals all
unfolding removals bare_attempt
removals-bare all = count_map (λ a. a.removed) bare_attempt all

counts-bare : (rules : Rules) (r : Run) → counts rules (bare-run r) ≡ counts rules r
unfolding counts
counts-bare rules r =
    rw (attempts_of-bare r, removals-bare (attempts_of r), length-map (attempts_of r) bare_attempt)
    (unfold bare-run in
    rw (length-map r.rounds (map bare_attempt), length-map r.cuts bare_lines, attempts_in-bare 0 r.rounds, attempts_in-bare 1 r.rounds, attempts_in-bare 2 r.rounds))

-- ---- two listings that differ in addresses alone

-- what an attempt did, but for the listing that it left
abbrev pub Did : Type 0
Did = record { line : ℕ; removed : Bool; into : List ℕ }

abbrev pub did : Attempt → Did
did a = record { line = a.line; removed = a.removed; into = a.into }

did_bare : (round : List Attempt) → map did (map bare_attempt round) ≡ map did round
unfolding bare_attempt
did_bare [] = refl
did_bare (a ∷ more) = ap {B = List Did} (λ r. did a ∷ r) (did_bare more)

all_did-bare : (rounds : List (List Attempt)) → map (map did) (map (map bare_attempt) rounds) ≡ map (map did) rounds
all_did-bare [] = refl
all_did-bare (round ∷ more) = λ t. did_bare round t ∷ all_did-bare more t

module _ (rules : Rules) (a b : Listing) (same : bare_lines a ≡ bare_lines b) where
  runs_same : bare-run (run rules a) ≡ bare-run (run rules b)
  runs_same = sym (run-bare rules a) ∙ ap (run rules) same ∙ run-bare rules b

  -- THE SAME ATTEMPTS: line, removed, into
  pub attempts_same : map (map did) (run rules a).rounds ≡ map (map did) (run rules b).rounds
  unfolding bare-run
  attempts_same =
      sym (all_did-bare (run rules a).rounds)
      ∙ ap (λ (r : Run). map (map did) r.rounds) runs_same
      ∙ all_did-bare (run rules b).rounds

  -- THE SAME COUNTS
  pub counts_same : counts rules (run rules a) ≡ counts rules (run rules b)
  counts_same = sym (counts-bare rules (run rules a)) ∙ ap (counts rules) runs_same ∙ counts-bare rules (run rules b)

  -- THE SAME FINISHED LINES, but for addresses
  pub finished_same : bare_lines (finished rules a) ≡ bare_lines (finished rules b)
  finished_same = sym (finished-bare rules a) ∙ ap (finished rules) same ∙ finished-bare rules b

  pub finished-length : length (finished rules a) ≡ length (finished rules b)
  finished-length = sym (length-map (finished rules a) bare) ∙ ap length finished_same ∙ length-map (finished rules b) bare

  -- THE SAME SOURCES
  pub comes_same : (p q : ℕ) → comes_to (attempts_of (run rules a)) p q ≡ comes_to (attempts_of (run rules b)) p q
  comes_same p q =
      sym (comes-bare (attempts_of (run rules a)) p q)
      ∙ ap (λ (all : List Attempt). comes_to all p q) (sym (attempts_of-bare (run rules a)) ∙ ap attempts_of runs_same ∙ attempts_of-bare (run rules b))
      ∙ comes-bare (attempts_of (run rules b)) p q

-- ---- the profile does not look at addresses either

breaks-from-bare : (indent n : ℕ) (lines : Listing) → breaks_from indent n (bare_lines lines) ≡ breaks_from indent n lines
unfolding breaks_from
breaks-from-bare indent n [] = refl
breaks-from-bare indent n (l ∷ []) = refl
breaks-from-bare indent n (l ∷ m ∷ ls) = rw (breaks-from-bare indent (suc n) (m ∷ ls))

breaks-bare : (lines : Listing) → breaks (bare_lines lines) ≡ breaks lines
unfolding breaks
breaks-bare [] = refl
breaks-bare (l ∷ ls) = breaks-from-bare l.indent 0 (l ∷ ls)

pub breaks_same : (a b : Listing) → bare_lines a ≡ bare_lines b → breaks a ≡ breaks b
breaks_same a b same = sym (breaks-bare a) ∙ ap breaks same ∙ breaks-bare b
