-- Rounds, cuts, and the run: the list of all listings, with the counts. Assumes nothing.
use Rattle.std.specs.Prelude.{ℕ, zero, suc, ◌+◌, pred, Bool, true, false, ltb, eqb, length, get_or, drop}
use mathlib.Core.List.{List, [], ◌∷◌, ◌++◌, map, flatten}
use Rattle.reference.specs.Control.{◌and◌, ◌or◌, when◌then◌else◌, let_some◌else◌then◌}
use Rattle.reference.specs.Lists.{any, count, windows, modify, get}
use Rattle.reference.specs.Text.{Text, bytes, ◌≟◌, starts_with, ends_with}
use Rattle.reference.specs.Listing.{Token, Line, Listing, ◌at◌, with_tokens}
use Rattle.reference.specs.Rules.{Rules, volatile}
use Rattle.reference.specs.Shapes.{is_label, call_at}
use Rattle.reference.specs.Life.{Labels, dead_after}
use Rattle.reference.specs.Join.{try_at, targets, text_or_empty}

-- the labels from the line i on
unfoldable pub labels_from : ℕ → Listing → Labels
labels_from i [] = []
labels_from i (l ∷ ls) =
    let r = labels_from (suc i) ls in
    when is_label l then record { name = text_or_empty (get l.tokens 0); place = i } ∷ r else r

unfoldable pub addressed_here : List (Token × Token) → List Text
addressed_here [] = []
addressed_here (w ∷ ws) =
    let r = addressed_here ws in
    when ends_with w.0.text (bytes "&") and starts_with w.1.text (bytes "var_") then w.1.text ∷ r else r

unfoldable pub addressed_in : Listing → List Text
addressed_in [] = []
addressed_in (l ∷ ls) = addressed_here (windows l.tokens) ++ addressed_in ls

-- a removal at i moves the labels below it up
unfoldable pub shift : ℕ → Labels → Labels
shift i [] = []
shift i (l ∷ ls) = (when ltb i l.place then record { name = l.name; place = pred l.place } else l) ∷ shift i ls

-- One attempt: its line, whether it removed that line, and the listing that it left; and the lines that it was joined into, by their
-- places before.
pub record Attempt : Type 0 where
  pub line : ℕ
  pub removed : Bool
  pub into : List ℕ
  pub left : Listing

-- at line i, the listing staying as it is
abbrev pub failure : ℕ → Listing → Attempt
failure i lines = record { line = i; removed = false; into = []; left = lines }

abbrev pub success : ℕ → List ℕ → Listing → Attempt
success i into lines' = record { line = i; removed = true; into = into; left = lines' }

module _ (rules : Rules) (addressed : List Text) where
  -- the attempts from line i on. `fuel` bounds them: m + s ≤ 2 m of them are made.
  unfoldable pub attempts_from : ℕ → ℕ → Listing → Labels → List Attempt
  attempts_from zero i lines labels = []
  attempts_from (suc fuel) i lines labels =
      let on : List Attempt = failure i lines ∷ attempts_from fuel (suc i) lines labels in
      let attempt : List Attempt =
      let_some (try_at rules lines i labels addressed) else on then λ lines'.
      success i (targets rules lines i labels) lines' ∷ attempts_from fuel (pred i) lines' (shift i labels) in
      when ltb i (length lines) then attempt else []

unfoldable pub propagate_once : Rules → Listing → List Attempt
propagate_once rules lines =
    attempts_from rules (addressed_in lines) (length lines + length lines) 0 lines (labels_from 0 lines)

-- the listing that a round leaves
unfoldable pub after_attempts : Listing → List Attempt → Listing
after_attempts lines [] = lines
after_attempts lines (a ∷ more) = after_attempts a.left more

unfoldable pub removals : List Attempt → ℕ
removals = count (λ a. a.removed)

unfoldable pub changed : List Attempt → Bool
changed = any (λ a. a.removed)

-- ---- rounds

-- `for _ in 0..limit { if !propagate_once(lines, volatile) { break; } }`: the attempts of each round that is made
unfoldable pub rounds_from : Rules → ℕ → Listing → List (List Attempt)
rounds_from rules zero lines = []
rounds_from rules (suc limit) lines =
    let round : List Attempt = propagate_once rules lines in
    let more : List (List Attempt) = rounds_from rules limit (after_attempts lines round) in
    round ∷ (when changed round then more else [])

-- The Rust's 3. A run that settles needs "at most n + 1 rounds" of n lines: proofs/Settling.antt shows that this limit ends none.
unfoldable pub limit : Rules → Listing → ℕ
limit rules lines = when rules.settle then length lines + 1 else 3

-- the listing that the rounds leave
unfoldable pub after_rounds : Listing → List (List Attempt) → Listing
after_rounds lines [] = lines
after_rounds lines (round ∷ more) = after_rounds (after_attempts lines round) more

-- ---- dead results

unfoldable pub dead_result : Rules → Labels → Listing → ℕ → Bool
dead_result rules labels lines i =
    let l : Line = lines at i in
    let name : Text = text_or_empty (get l.tokens 0) in
    (let_some (call_at l) else false then λ c. eqb c 2)
    and ((name ≟ bytes "rax") or (name ≟ bytes "eax"))
    and (text_or_empty (get l.tokens 1) ≟ bytes " = ")
    and dead_after lines i (bytes "rax") l.indent labels i (volatile rules)

-- the listings after each cut; i lines are done and n are to come
unfoldable pub cuts_from : Rules → Labels → ℕ → ℕ → Listing → List Listing
cuts_from rules labels zero i lines = []
cuts_from rules labels (suc n) i lines =
    let cut : List Listing =
    (let lines' : Listing = modify i (λ l. with_tokens (drop 2 l.tokens) l) lines in
    lines' ∷ cuts_from rules labels n (suc i) lines') in
    let on = cuts_from rules labels n (suc i) lines in
    when dead_result rules labels lines i then cut else on

unfoldable pub drop_dead_results : Rules → Listing → List Listing
drop_dead_results rules lines = cuts_from rules (labels_from 0 lines) (length lines) 0 lines

unfoldable pub last_of : Listing → List Listing → Listing
last_of lines [] = lines
last_of lines (l ∷ ls) = last_of l ls

-- ---- the run

pub record Run : Type 0 where
  -- the attempts of each round that was made
  pub rounds : List (List Attempt)
  pub cuts : List Listing

unfoldable pub run : Rules → Listing → Run
run rules lines =
    let rounds : List (List Attempt) = rounds_from rules (limit rules lines) lines in
    record { rounds = rounds; cuts = drop_dead_results rules (after_rounds lines rounds) }

-- all attempts of a run, those of every round in turn
unfoldable pub attempts_of : Run → List Attempt
attempts_of r = flatten r.rounds

unfoldable pub steps : Run → List Listing
steps r = map (λ a. a.left) (attempts_of r) ++ r.cuts

-- every listing of the run, the input first
unfoldable pub listings : Rules → Listing → List Listing
listings rules lines = lines ∷ steps (run rules lines)

unfoldable pub finished : Rules → Listing → Listing
finished rules lines = last_of lines (steps (run rules lines))

-- what is told of the rounds
pub data Tally : Type 0 where
  -- "attempts of each of three rounds (0 for one not run)"
  three : ℕ → ℕ → ℕ → Tally
  -- "In place of the three attempt counts it gives rounds, the last included, and total attempts."
  settled : ℕ → ℕ → Tally

pub record Counts : Type 0 where
  pub tally : Tally
  pub lines_removed : ℕ
  pub results_cut : ℕ

-- the attempts of the round k, from 0; none where it was not made
unfoldable pub attempts_in : ℕ → List (List Attempt) → ℕ
attempts_in k rounds = length (get_or rounds k [])

unfoldable pub counts : Rules → Run → Counts
counts rules r =
    record {
      tally =
          when rules.settle
          then settled (length r.rounds) (length (attempts_of r))
          else three (attempts_in 0 r.rounds) (attempts_in 1 r.rounds) (attempts_in 2 r.rounds);
      lines_removed = removals (attempts_of r);
      results_cut = length r.cuts;
    }
