-- The cautions of each finished line: those of the joins are handed on as marks are (reference's Marks), those of the cuts stay where they
-- are put. Then the same as a program keeps them, step by step: proofs/Carried.antt shows that the two are one. Assumes nothing.
use Rattle.std.specs.Prelude.{ℕ, zero, suc, ◌≡◌, ◌<◌, ◌*◌, ◌^◌, Bool, true, false, List, [], ◌∷◌, ◌++◌, map, length, get_or, drop}
use mathlib.Core.List.{flat_map}
use Rattle.std.proofs.Math.Option.{none, some}
use Rattle.reference.specs.Control.{when◌then◌else◌}
use Rattle.reference.specs.Lists.{get, remove, modify}
use Rattle.reference.specs.Listing.{Listing, with_tokens}
use Rattle.reference.specs.Rules.{Rules}
use Rattle.reference.specs.Life.{Labels}
use Rattle.reference.specs.Run.{Attempt, labels_from, dead_result, run, attempts_of, changed, after_attempts, after_rounds, finished}
use Rattle.reference.specs.Marks.{comes_to}
use Rattle.reference.specs.Tape.{to_le_bytes}
use Rattle.reference.specs.Straight.{breaks}
use Rattle.straight.specs.Meaning.{Meaning}
use Rattle.cautions.specs.Kinds.{odd_form, still_read, overwritten, call_moved, read_moved, other_width, odd_number, slot, handed_over}
use Rattle.cautions.specs.Kinds.{◌∪◌, ◌⊆◌, ◌given◌}
use Rattle.cautions.specs.Forms.{places}
use Rattle.cautions.specs.Joins.{none_yet, put, join_cautions, cut_cautions}

-- ---- the joins

-- the kinds in the sets of those places that P picks out
unfoldable pub picked : (ℕ → Bool) → List ℕ → ℕ
picked P [] = 0
picked P (s ∷ ss) = s given P 0 ∪ picked (λ p. P (suc p)) ss

-- Those that line q has after these attempts: what each of them puts on lines that come into it, "itself and [..] every line joined into
-- it, directly or through others".
unfoldable pub joined : Rules → Listing → List Attempt → ℕ → ℕ
joined rules lines [] q = 0
joined rules lines (a ∷ more) q =
    let own : ℕ = picked (λ p. comes_to (a ∷ more) p q) (join_cautions rules lines a) in
    let on : ℕ = joined rules a.left more q in
    when a.removed then own ∪ on else on

-- ---- the cuts

-- one cut: the listing just before it, and its line
pub record Cut : Type 0 where
  pub before : Listing
  pub line : ℕ

-- those that are made; i lines are done and n are to come
unfoldable pub cuts_made : Rules → Labels → ℕ → ℕ → Listing → List Cut
cuts_made rules labels zero i lines = []
cuts_made rules labels (suc n) i lines =
    let cut : List Cut =
    record { before = lines; line = i } ∷ cuts_made rules labels n (suc i) (modify i (λ l. with_tokens (drop 2 l.tokens) l) lines) in
    let on : List Cut = cuts_made rules labels n (suc i) lines in
    when dead_result rules labels lines i then cut else on

-- the sets of a listing's lines with others
unfoldable pub both : List ℕ → List ℕ → List ℕ
both [] ts = ts
both (s ∷ ss) ts = (s ∪ get_or ts 0 0) ∷ both ss (drop 1 ts)

-- and with those of cuts: a cut moves no line
unfoldable pub with_cuts : Rules → List Cut → List ℕ → List ℕ
with_cuts rules [] sets = sets
with_cuts rules (c ∷ more) sets = with_cuts rules more (both sets (cut_cautions rules c.before c.line))

-- ---- the run

-- the listing that the rounds leave, and its cuts
abbrev pub uncut : Rules → Listing → Listing
uncut rules input = after_rounds input (run rules input).rounds

abbrev pub cuts_of : Rules → Listing → List Cut
cuts_of rules input = let lines : Listing = uncut rules input in cuts_made rules (labels_from 0 lines) (length lines) 0 lines

-- a set for each line of the finished listing
unfoldable pub finished_cautions : Rules → Listing → List ℕ
finished_cautions rules input =
    with_cuts rules (cuts_of rules input) (map (joined rules input (attempts_of (run rules input))) (places (uncut rules input)))

-- what the call writes: each set in 2 bytes
unfoldable pub caution_bytes : List ℕ → List ℕ
caution_bytes = flat_map (to_le_bytes 2)

-- ---- step by step

-- the sets when line i, which is removed, has handed on its own to the lines that it is joined into
unfoldable pub hand_on : ℕ → List ℕ → List ℕ → List ℕ
hand_on i into sets = remove i (put (get_or sets i 0) into 0 sets)

-- of attempts in turn
unfoldable pub carry : Rules → Listing → List Attempt → List ℕ → List ℕ
carry rules lines [] sets = sets
carry rules lines (a ∷ more) sets =
    let joined : List ℕ = hand_on a.line a.into (both sets (join_cautions rules lines a)) in
    carry rules a.left more (when a.removed then joined else sets)

-- of the whole run
unfoldable pub kept_cautions : Rules → Listing → List ℕ
kept_cautions rules input = with_cuts rules (cuts_of rules input) (carry rules input (attempts_of (run rules input)) (none_yet input))

-- ---- what holds of them

-- Of each finished line there is one set, of these ten kinds; and kept step by step they are the same.
pub record Kept (rules : Rules) (input : Listing) : Type 0 where
  pub each : length (finished_cautions rules input) ≡ length (finished rules input)
  pub small : (q : ℕ) → get_or (finished_cautions rules input) q 0 < 2 ^ 10
  pub same : kept_cautions rules input ≡ finished_cautions rules input
  -- so two bytes hold a set
  pub written : length (caution_bytes (finished_cautions rules input)) ≡ 2 * length (finished rules input)

-- No caution is lost: what a join or a cut puts on a line stands on a finished line.
abbrev pub Stands : Rules → Listing → ℕ → Type 0
Stands rules input s = (q : ℕ) × (q < length (finished rules input)) × (s ⊆ get_or (finished_cautions rules input) q 0)

pub record NothingLost (rules : Rules) (input : Listing) : Type 0 where
  pub of_joins : (before more : List Attempt) (a : Attempt) → attempts_of (run rules input) ≡ before ++ (a ∷ more) → a.removed ≡ true
      → (p : ℕ) → p < length (after_attempts input before)
      → Stands rules input (get_or (join_cautions rules (after_attempts input before) a) p 0)
  pub of_cuts : (n : ℕ) (c : Cut) → get (cuts_of rules input) n ≡ some c
      → (p : ℕ) → p < length c.before → Stands rules input (get_or (cut_cautions rules c.before c.line) p 0)

-- A listing of which no step succeeds has none.
abbrev pub Quiet : Rules → Listing → Type 0
Quiet rules input =
    changed (attempts_of (run rules input)) ≡ false → (run rules input).cuts ≡ [] → finished_cautions rules input ≡ none_yet input

-- In the profile of straight pieces (M-106) no kind is raised that speaks of order or grouping: no call and no read has moved, no call
-- stands between, and the text of each line groups as it did.
abbrev pub VALUES : ℕ
VALUES = odd_form ∪ still_read ∪ other_width ∪ odd_number ∪ slot ∪ handed_over

abbrev pub InOrder : Rules → Listing → Type 0
InOrder rules input = rules.profile ≡ true → breaks input ≡ none → (q : ℕ) → get_or (finished_cautions rules input) q 0 ⊆ VALUES

-- A straight piece (M-106), cleaned with the profile or without it, returns the same in every listing of the run, modulo 2^64, whatever the
-- registers held, where no finished line has `other_text`; so too where no caution is raised at all.
abbrev pub ALL_BUT_TEXT : ℕ
ALL_BUT_TEXT =
    odd_form ∪ still_read ∪ overwritten ∪ call_moved ∪ read_moved ∪ other_width ∪ odd_number ∪ slot ∪ handed_over

pub record Unwarned (rules : Rules) (input : Listing) : Type 0 where
  pub of_text : breaks input ≡ none → ((q : ℕ) → get_or (finished_cautions rules input) q 0 ⊆ ALL_BUT_TEXT) → Meaning rules input
  pub of_none : breaks input ≡ none → finished_cautions rules input ≡ none_yet (finished rules input) → Meaning rules input
