-- Demand 3: a single claim about the whole run. Its clauses, by the numbers that stand beside the fields below:
--   "For every accepted listing and every convention, over the whole run of its cleaning, in which
--   (1) each attempt, failed ones included, and each dropped result takes what the last left, from the input on: after every one
--   (2) the address and indent pairs are a subsequence of the input's,
--   (3) input label lines stand unchanged in order,
--   (4) every line gone was an assignment to a register or stack slot when removed,
--   (5) no callee is called fewer times and
--   (6) no more tokens stand than before it, and
--   (7) text is at most 49,152 bytes;
--   (8) the last listing left is the finished one; and
--   (9) every round that begins with m lines and removes s makes at most m + s attempts."
-- Words in quotes elsewhere are document 01's, at the definition of the term that they fix. Proved in proofs/Rounds.antt. Assumes nothing.
use Rattle.std.specs.Prelude.{ℕ, suc, pred, ◌+◌, ◌≤◌, ◌<◌, ◌≡◌, true, false, ltb, eqb, length, drop}
use mathlib.Core.List.{List, [], ◌∷◌, ◌++◌, Sublistᴰ}
use Rattle.std.proofs.Math.Option.{none, some}
use Rattle.reference.specs.Control.{◌and◌}
use Rattle.reference.specs.Lists.{any, remove, modify}
use Rattle.reference.specs.Text.{Text}
use Rattle.reference.specs.Listing.{is, Number, Listing, ◌at◌, with_tokens}
use Rattle.reference.specs.Names.{Fam, fam_of}
use Rattle.reference.specs.Rules.{Rules}
use Rattle.reference.specs.Shapes.{Assignment, assignment}
use Rattle.reference.specs.Life.{Labels}
use Rattle.reference.specs.Join.{try_at, targets}
use Rattle.reference.specs.Run.{labels_from, addressed_in, shift, Attempt, failure, success, after_attempts, removals, changed, limit}
use Rattle.reference.specs.Run.{after_rounds, dead_result, Run, run, attempts_of, steps, listings, finished}
use Rattle.reference.specs.Claim.{size, Callee, calls, token_count, text, pairs_of, label_lines}

-- "An accepted listing is one whose tape no question below refuses": those questions bound lines, indents and bytes too. The claim needs
-- these three limits alone, and so it holds of more listings.
pub record Accepted (lines : Listing) : Type 0 where
  pub tokens_fit : token_count lines ≤ 1024
  pub text_fits : text lines ≤ 24576
  pub numbers_fit : any (λ l. any (λ t. is Number t and ltb 24 (size t)) l.tokens) lines ≡ false

-- ---- (1) the run: "the input, then the one after each attempt of every round in turn, failed attempts included, then the one after each
-- cut". The definitions make it (`run`, `listings`); here it is said of what they make, with no bound on the attempts.

-- The attempts of a round that stands at line i, up to its end. "An attempt is one call of `try_at` at line i. Success removes line i and
-- steps back one, not below 0; failure steps on"; "label places shift with removals".
pub data Attempts (rules : Rules) (addressed : List Text) : ℕ → Listing → Labels → List Attempt → Type 0 where
  over : {i : ℕ} {lines : Listing} {labels : Labels} → length lines ≤ i → Attempts rules addressed i lines labels []
  failed : {i : ℕ} {lines : Listing} {labels : Labels} {more : List Attempt} → i < length lines
      → try_at rules lines i labels addressed ≡ none
      → Attempts rules addressed (suc i) lines labels more
      → Attempts rules addressed i lines labels (failure i lines ∷ more)
  succeeded : {i : ℕ} {lines lines' : Listing} {labels : Labels} {more : List Attempt} → i < length lines
      → try_at rules lines i labels addressed ≡ some lines'
      → Attempts rules addressed (pred i) lines' (shift i labels) more
      → Attempts rules addressed i lines labels (success i (targets rules lines i labels) lines' ∷ more)

-- a round that begins with `lines`: "Labels and addressed `var_` names are gathered when a round begins"
abbrev pub Round : Rules → Listing → List Attempt → Type 0
Round rules lines round = Attempts rules (addressed_in lines) 0 lines (labels_from 0 lines) round

-- The rounds from a listing on, each with what the one before it left: "At most three rounds, ending after one that changed nothing";
-- three, or whatever the limit is.
pub data Rounds (rules : Rules) : ℕ → Listing → List (List Attempt) → Type 0 where
  enough : {lines : Listing} → Rounds rules 0 lines []
  ended : {limit : ℕ} {lines : Listing} {round : List Attempt} → Round rules lines round → changed round ≡ false
      → Rounds rules (suc limit) lines (round ∷ [])
  again : {limit : ℕ} {lines : Listing} {round : List Attempt} {more : List (List Attempt)} → Round rules lines round → changed round ≡ true
      → Rounds rules limit (after_attempts lines round) more
      → Rounds rules (suc limit) lines (round ∷ more)

-- rounds of which the last changed nothing
abbrev pub LastIdle : List Attempt → List (List Attempt) → Type 0
LastIdle round [] = changed round ≡ false
LastIdle round (next ∷ more) = LastIdle next more

abbrev pub Settled : List (List Attempt) → Type 0
Settled [] = ⊥
Settled (round ∷ more) = LastIdle round more

-- the listings after each cut, from line i on. "A cut is demand 3's dropped result, one line changed at a time": `rax = ` or `eax = `
-- goes, two tokens
pub data Cuts (rules : Rules) (labels : Labels) : ℕ → Listing → List Listing → Type 0 where
  done : {i : ℕ} {lines : Listing} → length lines ≤ i → Cuts rules labels i lines []
  kept : {i : ℕ} {lines : Listing} {more : List Listing} → i < length lines → dead_result rules labels lines i ≡ false
      → Cuts rules labels (suc i) lines more → Cuts rules labels i lines more
  dropped : {i : ℕ} {lines lines' : Listing} {more : List Listing} → i < length lines → dead_result rules labels lines i ≡ true
      → lines' ≡ modify i (λ l. with_tokens (drop 2 l.tokens) l) lines
      → Cuts rules labels (suc i) lines' more → Cuts rules labels i lines (lines' ∷ more)

-- (1) "Every step takes the listing that the step before left".
pub record Taken (rules : Rules) (input : Listing) (r : Run) : Type 0 where
  pub rounds : Rounds rules (limit rules input) input r.rounds
  -- where it is to settle, the run goes "on until a round changes nothing": no limit ends it
  pub settles : rules.settle ≡ true → Settled r.rounds
  pub cuts : Cuts rules (labels_from 0 (after_rounds input r.rounds)) 0 (after_rounds input r.rounds) r.cuts

-- ---- a listing of the run, against the input

pub record Within (input lines : Listing) : Type 0 where
  -- (2)
  pub pairs_in_order : Sublistᴰ (pairs_of lines) (pairs_of input)
  -- (3) they "are a subsequence of the lines of each listing in the run"
  pub labels_stand : Sublistᴰ (label_lines input) lines
  -- (7)
  pub text_bounded : text lines ≤ 49152

abbrev pub Each : (Listing → Type 0) → List Listing → Type 0
Each P [] = Unit {0}
Each P (l ∷ ls) = P l × Each P ls

-- ---- a step, against the listing just before it: "'Before' means one step earlier; a line gone is judged in the listing just before"

-- the line i is an assignment; "its register or stack slot is any R with a family, r99 included"
pub record Assigned (lines : Listing) (i : ℕ) : Type 0 where
  pub to : Assignment
  pub name : Fam
  pub is_assignment : assignment (lines at i) ≡ some to
  pub is_register : fam_of to.lhs ≡ some name

-- "Success removes line i", an assignment, and no other: of the lines that it is joined into, their places `into`, only tokens change,
-- and every other line stands unchanged.
pub record Removes (before : Listing) (i : ℕ) (into : List ℕ) (after : Listing) : Type 0 where
  pub in_range : i < length before
  pub assigned : Assigned before i
  -- the listing with its expression joined in, and line i still there
  pub joined : Listing
  pub pairs_stand : pairs_of joined ≡ pairs_of before
  pub others_stand : (j : ℕ) → any (eqb j) into ≡ false → joined at j ≡ before at j
  pub left : after ≡ remove i joined

-- an attempt that fails leaves the listing as it is
pub data Tried (before : Listing) : Attempt → Type 0 where
  nothing : {i : ℕ} → Tried before (failure i before)
  line : {i : ℕ} {into : List ℕ} {after : Listing} → Removes before i into after → Tried before (success i into after)

-- a cut takes no line away: one line loses its first two tokens, and all else stands
pub record Drops (before after : Listing) : Type 0 where
  pub place : ℕ
  pub in_range : place < length before
  pub two_stood : 2 ≤ length (before at place).tokens
  pub left : after ≡ modify place (λ l. with_tokens (drop 2 l.tokens) l) before

-- of every attempt in turn, then of every cut
abbrev pub EachCut : Listing → List Listing → Type 0
EachCut before [] = Unit {0}
EachCut before (after ∷ more) = Drops before after × EachCut after more

abbrev pub Gone : Listing → List Attempt → List Listing → Type 0
Gone before [] cuts = EachCut before cuts
Gone before (a ∷ more) cuts = Tried before a × Gone a.left more cuts

pub record Step (before after : Listing) : Type 0 where
  -- (5)
  pub calls_stay : (c : Callee) → calls c before ≤ calls c after
  -- (6)
  pub tokens_stay : token_count after ≤ token_count before

abbrev pub Steps : Listing → List Listing → Type 0
Steps before [] = Unit {0}
Steps before (l ∷ ls) = Step before l × Steps l ls

-- ---- (9) a round that begins with `lines`: m is their number, s how many of them are gone when it ends

pub record Bounded (lines : Listing) (round : List Attempt) : Type 0 where
  -- s, the lines gone, is the number of "removals (attempts that succeed)"
  pub removes : length (after_attempts lines round) + removals round ≡ length lines
  pub attempts : length round ≤ length lines + removals round

-- of every round, with the listing that it begins with
abbrev pub EachRound : (Listing → List Attempt → Type 0) → Listing → List (List Attempt) → Type 0
EachRound P lines [] = Unit {0}
EachRound P lines (round ∷ more) = P lines round × EachRound P (after_attempts lines round) more

-- ---- DEMAND 3, of the run of the listing `input` under the settings `rules`

pub record Demand3 (rules : Rules) (input : Listing) : Type 0 where
  -- (1)
  pub taken : Taken rules input (run rules input)
  -- (2), (3), (7): of the input, and after every step
  pub each : Each (Within input) (listings rules input)
  -- (4): of every step, against the listing before it
  pub gone : Gone input (attempts_of (run rules input)) (run rules input).cuts
  -- (5), (6): of every step, against the listing before it
  pub step : Steps input (steps (run rules input))
  -- (8) "the input itself, where there was no step"
  pub last : (before : List Listing) × (listings rules input ≡ before ++ (finished rules input ∷ []))
  -- (9)
  pub bounded : EachRound Bounded input (run rules input).rounds
