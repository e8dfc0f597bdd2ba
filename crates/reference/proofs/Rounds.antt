-- Demand 3, proved. The rounds and cuts of the definitions are those that `Taken` describes, so the fuel of a round never runs out; the run is a chain
-- of steps, each of which keeps what demand 3 asks. Assumes nothing.
use Prim.Native.Nat.{ℕ, zero, suc, ◌+◌, ◌≤◌, ◌<◌, zero-le}
use native.Mathlib.Omega.{arith}
use mathlib.Core.Path.{◌≡◌, refl, ap, ◌∙◌}
use mathlib.Core.Bool.{Bool, true, false, false≢true}
use mathlib.Core.List.Sublistᴰ
use mathlib.Core.List.{List, [], ◌∷◌, ◌++◌, map, map-append, flatten, Sublistᴰ}
use lib.ListN.{length}
use borrow.Author.Tests.{ltb-true, ltb-false}
use Rattle.reference.specs.Control.{◌or◌, when◌then◌else◌}
use Rattle.reference.specs.Text.{Text}
use Rattle.reference.specs.Listing.{Listing}
use Rattle.reference.specs.Rules.{Rules}
use Rattle.reference.specs.Life.{Labels}
use Rattle.reference.specs.Run.{labels_from, addressed_in, Attempt, attempts_from, propagate_once, after_attempts, removals, changed, rounds_from, limit, after_rounds, cuts_from, drop_dead_results}
use Rattle.reference.specs.Run.{last_of, run, attempts_of, steps, listings, finished}
use Rattle.reference.specs.Claim.{pairs_of, label_lines}
use Rattle.reference.specs.Demand.{Accepted, Attempts, over, failed, succeeded, Round, Rounds, enough, ended, again, Settled, Cuts, done, kept, dropped}
use Rattle.reference.specs.Demand.{Taken, Within, Each, nothing, line, EachCut, Gone, Step, Steps, Bounded, EachRound, Demand3}
use Rattle.reference.proofs.Cases.{by-if, by-some, true-false}
use Rattle.reference.proofs.Lines.{length-modify, labels_sublist}
use Rattle.reference.proofs.Changes.{Changes, unchanged, changes-step, Removed, removed-length, removed_places, removed_labels, removed-gone, removed-step}
use Rattle.reference.proofs.Fits.{Fits, fits_text, accepted-fits, changes_fit, removed_fit}
use Rattle.reference.proofs.Attempts.{attempt_removed}
use Rattle.reference.proofs.Cuts.{cut_two, cut-changes}

-- ---- the rounds and the cuts, without fuel

module _ (rules : Rules) (addressed : List Text) where
  -- a round with fuel for what is left: each attempt steps on, or takes a line out and steps back one
  pub attempts : (fuel i : ℕ) (lines : Listing) (labels : Labels) → length lines + length lines ≤ fuel + i
      → Attempts rules addressed i lines labels (attempts_from rules addressed fuel i lines labels)
  unfolding attempts_from
  attempts zero i lines labels le = let end : length lines ≤ i = omega arith in over end
  attempts (suc fuel) i lines labels le =
      by-if (λ (r : List Attempt). Attempts rules addressed i lines labels r)
      (λ h.
      (let lt : i < length lines = ltb-true _ _ h in
      by-some (λ (r : List Attempt). Attempts rules addressed i lines labels r)
      (λ e. failed lt e (attempts fuel (suc i) lines labels (omega arith)))
      (λ lines' e.
      (let fewer : suc (length lines') ≡ length lines = removed-length (attempt_removed rules lines i labels addressed e) in
      succeeded lt e (attempts fuel _ lines' _ (omega arith))))))
      (λ h. over (ltb-false _ _ h))

pub round_taken : (rules : Rules) (lines : Listing) → Round rules lines (propagate_once rules lines)
unfolding propagate_once
round_taken rules lines = attempts rules (addressed_in lines) (length lines + length lines) 0 lines (labels_from 0 lines) (omega arith)

pub rounds-taken : (rules : Rules) (limit : ℕ) (lines : Listing) → Rounds rules limit lines (rounds_from rules limit lines)
unfolding rounds_from
rounds-taken rules zero lines = enough
rounds-taken rules (suc limit) lines =
    let round : List Attempt = propagate_once rules lines in
    by-if (λ (more : List (List Attempt)). Rounds rules (suc limit) lines (round ∷ more))
    (λ h. again (round_taken rules lines) h (rounds-taken rules limit (after_attempts lines round)))
    (λ h. ended (round_taken rules lines) h)

pub cuts-taken : (rules : Rules) (labels : Labels) (n i : ℕ) (lines : Listing) → length lines ≡ n + i → Cuts rules labels i lines (cuts_from rules labels n i lines)
unfolding cuts_from
cuts-taken rules labels zero i lines e = let end : length lines ≤ i = omega arith in done end
cuts-taken rules labels (suc n) i lines e =
    let lt : i < length lines = omega arith in
    let rest : length lines ≡ n + suc i = omega arith in
    by-if (λ (r : List Listing). Cuts rules labels i lines r)
    (λ h. dropped lt h refl (cuts-taken rules labels n (suc i) _ (length-modify _ i lines ∙ rest)))
    (λ h. kept lt h (cuts-taken rules labels n (suc i) lines rest))

-- ---- one step

data Next (before after : Listing) : Type 0 where
  changes : Changes [] [] [] before after → Next before after
  removes : (i : ℕ) {into : List ℕ} → Removed before i into after → Next before after

next-step : {before after : Listing} → Next before after → Step before after
next-step (changes h) = changes-step h
next-step (removes i r) = removed-step r

-- what holds of every listing of the run
record Inv (input lines : Listing) : Type 0 where
  in_order : Sublistᴰ (pairs_of lines) (pairs_of input)
  labelled : Sublistᴰ (label_lines input) (label_lines lines)
  fits : Fits lines

next_inv : {input before after : Listing} → Next before after → Inv input before → Inv input after
next_inv (changes h) v =
    record {
      in_order = rw h.places_same v.in_order;
      labelled = Sublistᴰ.trans v.labelled h.labels_stay;
      fits = changes_fit h v.fits;
    }
next_inv (removes i r) v =
    record {
      in_order = Sublistᴰ.trans (removed_places r) v.in_order;
      labelled = Sublistᴰ.trans v.labelled (removed_labels r);
      fits = removed_fit r v.fits;
    }

within : {input lines : Listing} → Inv input lines → Within input lines
within {lines = lines} v =
    record {
      pairs_in_order = v.in_order;
      labels_stand = Sublistᴰ.trans v.labelled (labels_sublist lines);
      text_bounded = fits_text v.fits;
    }

-- ---- chains

-- steps from a listing to a listing
data Chain : Listing → List Listing → Listing → Type 0 where
  end : {l : Listing} → Chain l [] l
  next : {l m n : Listing} {ls : List Listing} → Next l m → Chain m ls n → Chain l (m ∷ ls) n

chain_append : {l m n : Listing} {xs ys : List Listing} → Chain l xs m → Chain m ys n → Chain l (xs ++ ys) n
chain_append end q = q
chain_append (next s p) q = next s (chain_append p q)

chain_steps : {l m : Listing} {ls : List Listing} → Chain l ls m → Steps l ls
chain_steps end = tt
chain_steps (next s p) = (next-step s, chain_steps p)

chain-each : {input l m : Listing} {ls : List Listing} → Inv input l → Chain l ls m → Each (Within input) (l ∷ ls)
chain-each v end = (within v, tt)
chain-each v (next s p) = (within v, chain-each (next_inv s v) p)

last-stands : (l : Listing) (ls : List Listing) → (before : List Listing) × (l ∷ ls ≡ before ++ (last_of l ls ∷ []))
unfolding last_of
last-stands l [] = ([], refl)
last-stands l (x ∷ xs) = let s = last-stands x xs in (l ∷ s.0, ap (λ (r : List Listing). l ∷ r) s.1)

-- ---- rounds

record Sound (lines : Listing) (round : List Attempt) : Type 0 where
  chain : Chain lines (map (λ a. a.left) round) (after_attempts lines round)
  bounded : Bounded lines round

module _ {rules : Rules} {addressed : List Text} where
  attempts-chain : {i : ℕ} {lines : Listing} {labels : Labels} {round : List Attempt} → Attempts rules addressed i lines labels round
      → Chain lines (map (λ a. a.left) round) (after_attempts lines round)
  unfolding after_attempts
  attempts-chain (over h) = end
  attempts-chain (failed h e more) = next (changes (unchanged [] _)) (attempts-chain more)
  attempts-chain (succeeded {i = i} {lines = lines} {labels = labels} h e more) =
      next (removes i (attempt_removed rules lines i labels addressed e)) (attempts-chain more)

  attempts-bounded : {i : ℕ} {lines : Listing} {labels : Labels} {round : List Attempt} → Attempts rules addressed i lines labels round → i ≤ length lines
      → (length (after_attempts lines round) + removals round ≡ length lines) × (length round + i ≤ length lines + removals round)
  unfolding after_attempts removals when◌then◌else◌
  attempts-bounded (over h) le = (omega arith, omega arith)
  attempts-bounded (failed h e more) le = let r = attempts-bounded more h in (r.0, omega (arith, r.1))
  attempts-bounded (succeeded {i = i} {lines = lines} {lines' = lines'} {labels = labels} h e more) le =
      let fewer : suc (length lines') ≡ length lines = removed-length (attempt_removed rules lines i labels addressed e) in
      let r = attempts-bounded more (omega arith) in
      (omega (arith, r.0), omega (arith, r.1))

round_sound : {rules : Rules} {lines : Listing} {round : List Attempt} → Round rules lines round → Sound lines round
round_sound h =
    let b = attempts-bounded h zero-le in
    record { chain = attempts-chain h; bounded = record { removes = b.0; attempts = omega (arith, b.1) } }

-- ---- what is gone

attempts-gone : {rules : Rules} {addressed : List Text} {i : ℕ} {lines : Listing} {labels : Labels} {round : List Attempt}
    → Attempts rules addressed i lines labels round → (more : List Attempt) (cuts : List Listing) → Gone (after_attempts lines round) more cuts → Gone lines (round ++ more) cuts
unfolding after_attempts
attempts-gone (over h) after cuts g = g
attempts-gone (failed h e rest) after cuts g = (nothing, attempts-gone rest after cuts g)
attempts-gone {rules = rules} {addressed = addressed} (succeeded {i = i} {lines = lines} {labels = labels} h e rest) after cuts g =
    (line (removed-gone (attempt_removed rules lines i labels addressed e)), attempts-gone rest after cuts g)

rounds-gone : {rules : Rules} {limit : ℕ} {lines : Listing} {rounds : List (List Attempt)} → Rounds rules limit lines rounds
    → (cuts : List Listing) → EachCut (after_rounds lines rounds) cuts → Gone lines (flatten rounds) cuts
unfolding after_rounds flatten
rounds-gone enough cuts g = g
rounds-gone (ended h e) cuts g = attempts-gone h [] cuts g
rounds-gone (again {more = later} h e more) cuts g = attempts-gone h (flatten later) cuts (rounds-gone more cuts g)

cuts-gone : {rules : Rules} {labels : Labels} {i : ℕ} {lines : Listing} {cuts : List Listing} → Cuts rules labels i lines cuts → EachCut lines cuts
cuts-gone (done h) = tt
cuts-gone (kept h e more) = cuts-gone more
cuts-gone {rules = rules} {labels = labels} (dropped {i = i} {lines = lines} h e same more) =
    (record { place = i; in_range = h; two_stood = cut_two rules labels lines i e; left = same }, cuts-gone more)

-- ---- all rounds together

record AllSound (lines : Listing) (rounds : List (List Attempt)) : Type 0 where
  chain : Chain lines (map (λ a. a.left) (flatten rounds)) (after_rounds lines rounds)
  bounded : EachRound Bounded lines rounds

sound_more : {lines : Listing} {round : List Attempt} {more : List (List Attempt)} → Sound lines round → AllSound (after_attempts lines round) more
    → AllSound lines (round ∷ more)
unfolding after_rounds flatten
sound_more {round = round} {more = more} s r =
    record {
      chain = rw (map-append (λ (a : Attempt). a.left) round (flatten more)) (chain_append s.chain r.chain);
      bounded = (s.bounded, r.bounded);
    }

rounds-sound : {rules : Rules} {limit : ℕ} {lines : Listing} {rounds : List (List Attempt)} → Rounds rules limit lines rounds → AllSound lines rounds
unfolding after_rounds flatten
rounds-sound enough = record { chain = end; bounded = tt }
rounds-sound (ended h e) = sound_more (round_sound h) (record { chain = end; bounded = tt })
rounds-sound (again h e more) = sound_more (round_sound h) (rounds-sound more)

-- ---- a run that is to settle

-- a round that changed something took a line out
changed-removes : (round : List Attempt) → changed round ≡ true → 1 ≤ removals round
unfolding changed removals ◌or◌ when◌then◌else◌
changed-removes [] e = absurd (false≢true e)
changed-removes (a ∷ more) e = go a.removed (changed-removes more) e
  where
    go : (b : Bool) → (changed more ≡ true → 1 ≤ removals more) → (b or changed more) ≡ true → 1 ≤ (when b then suc (removals more) else removals more)
    go true h e = omega arith
    go false h e = h e

settled_on : (round : List Attempt) (more : List (List Attempt)) → Settled more → Settled (round ∷ more)
settled_on round [] h = absurd h
settled_on round (after ∷ more) h = h

-- WITH MORE ROUNDS THAN LINES ALLOWED, THE LAST ONE CHANGED NOTHING: each one before it took a line out
pub rounds-settle : {rules : Rules} {limit : ℕ} {lines : Listing} {rounds : List (List Attempt)} → Rounds rules limit lines rounds → length lines < limit
    → Settled rounds
rounds-settle enough lt = absurd (omega arith)
rounds-settle (ended h e) lt = e
rounds-settle (again {round = round} {more = more} h e rest) lt =
    let b = (round_sound h).bounded in
    settled_on round more (rounds-settle rest (omega (arith, b.removes, changed-removes round e)))

run-settles : (rules : Rules) (input : Listing) → rules.settle ≡ true → Settled (run rules input).rounds
unfolding run limit
run-settles rules input e =
    rounds-settle (rounds-taken rules (limit rules input) input)
    (by-if (λ (n : ℕ). length input < n) (λ h. omega arith) (λ h. absurd (true-false e h)))

pub run-taken : (rules : Rules) (input : Listing) → Taken rules input (run rules input)
unfolding run drop_dead_results
run-taken rules input =
    record {
      rounds = rounds-taken rules (limit rules input) input;
      settles = run-settles rules input;
      cuts = cuts-taken rules _ _ 0 _ (omega arith);
    }

-- ---- the run

cuts-chain : {rules : Rules} {labels : Labels} {i : ℕ} {lines : Listing} {cuts : List Listing} → Cuts rules labels i lines cuts
    → (left : Listing) × Chain lines cuts left
cuts-chain (done h) = (_, end)
cuts-chain (kept h e more) = cuts-chain more
cuts-chain {rules = rules} {labels = labels} (dropped {i = i} {lines = lines} {lines' = lines'} h e same more) =
    let r = cuts-chain more in
    let cut : Changes [] [] [] lines lines' = rw same (cut-changes rules labels lines i h e) in
    (r.0, next (changes cut) r.1)

-- DEMAND 3
pub demand3 : (rules : Rules) (input : Listing) → Accepted input → Demand3 rules input
unfolding listings attempts_of steps finished
demand3 rules input ok =
    let taken = run-taken rules input in
    let rounds = rounds-sound taken.rounds in
    let chain = chain_append rounds.chain (cuts-chain taken.cuts).1 in
    record {
      taken = taken;
      each = chain-each (record { in_order = Sublistᴰ.refl _; labelled = Sublistᴰ.refl _; fits = accepted-fits ok }) chain;
      gone = rounds-gone taken.rounds _ (cuts-gone taken.cuts);
      step = chain_steps chain;
      last = last-stands input _;
      bounded = rounds.bounded;
    }
