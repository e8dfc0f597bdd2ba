-- What an attempt and a round leave. Assumes nothing.
use Rattle.std.specs.Prelude.{ℕ, pred, ◌+◌, ◌≤◌, ◌≡◌, ◌⊎◌, List, length}
use Rattle.std.proofs.Math.Option.{none}
use Rattle.reference.specs.Text.{Text}
use Rattle.reference.specs.Listing.{Listing}
use Rattle.reference.specs.Rules.{Rules}
use Rattle.reference.specs.Run.{Attempt, after_attempts, removals}
use Rattle.joining.specs.Places.{labels_at, shift_places}
use Rattle.joining.specs.Limits.{RunLimits}
use Rattle.joining.specs.Rounds.{attempts}
use Rattle.lines.specs.Lines.{Reading}
use Rattle.join.specs.Contents.{Contents, listing_now, bare_now, Current}
use Rattle.join.specs.Attempts.{tried_at, Joined}
use Rattle.join.specs.Cautions.{JoinRaised}
use Rattle.raising.specs.Tables.{Kept}
use Rattle.raising.specs.declared.tables.Raising.{Raising}
use Rattle.rounds.specs.declared.rounds.Round.{Round}
use Rattle.rounds.specs.Carries.{Carries}
use Rattle.rounds.specs.Cautions.{Raises}

-- ---- one attempt

-- the attempt failed: the next line is to be tried, and nothing else is changed (t and t' are the tables of cautions)
pub record Failed (rules : Rules) (names : List Text) (s : Contents) (t : Raising) (labels : List ℕ) (r : Round) (s' : Contents)
    (t' : Raising) (labels' : List ℕ) (r' : Round) : Type 0 where
  pub next_is : r'.next ≡ r.next + 1
  pub attempts_are : r'.attempts ≡ r.attempts + 1
  pub removed_is : r'.removed ≡ r.removed
  pub same : s' ≡ s
  pub same_tables : t' ≡ t
  pub labels_are : labels' ≡ labels
  pub tried : (addresses : Reading) → tried_at rules names s labels r.next addresses ≡ none

-- the attempt succeeded: its line was joined, the label places are shifted, and the line before is to be tried
pub record Succeeded (rules : Rules) (names : List Text) (s : Contents) (t : Raising) (labels : List ℕ) (r : Round) (s' : Contents)
    (t' : Raising) (labels' : List ℕ) (r' : Round) : Type 0 where
  pub next_is : r'.next ≡ pred r.next
  pub attempts_are : r'.attempts ≡ r.attempts + 1
  pub removed_is : r'.removed ≡ r.removed + 1
  pub joined : Joined rules names s labels r.next s'
  pub raised : JoinRaised rules s labels r.next t s' t'
  pub labels_are : labels' ≡ shift_places r.next labels

abbrev pub Turned : Rules → List Text → Contents → Raising → List ℕ → Round → Contents → Raising → List ℕ → Round → Type 0
Turned rules names s t labels r s' t' labels' r' =
    Failed rules names s t labels r s' t' labels' r' ⊎ Succeeded rules names s t labels r s' t' labels' r'

-- the counts can be raised
abbrev pub Countable : Round → Type 0
Countable r = (r.attempts ≤ 512) × (r.removed ≤ 512)

-- ---- a round

-- The attempts `round` were made, one after the other: what they leave, how many they are and how many of them succeeded, and the marks
-- and cautions that they carry on; whatever the addresses are.
pub record Made (rules : Rules) (round : Listing → List Attempt) (s : Contents) (t : Raising) (s' : Contents) (t' : Raising)
    (r : Round) : Type 0 where
  pub current : Current s'
  pub limits : RunLimits (bare_now s')
  pub few : Countable r
  pub left : (addresses : Reading) → listing_now s' addresses ≡ after_attempts (listing_now s addresses) (round (listing_now s addresses))
  pub attempts_are : (addresses : Reading) → r.attempts ≡ length (round (listing_now s addresses))
  pub removed_is : (addresses : Reading) → r.removed ≡ removals (round (listing_now s addresses))
  pub marks : (addresses : Reading) → Carries (round (listing_now s addresses)) s s'
  pub kept : Kept (bare_now s') t'
  pub raised : (addresses : Reading) → let lines = listing_now s addresses in Raises rules lines (round lines) s t s' t'

-- the attempts from line 0 on, with the labels at these places of the listing and these addressed names
abbrev pub attempts_with : Rules → List Text → Contents → List ℕ → Listing → List Attempt
attempts_with rules names s labels listing = attempts rules names 0 listing (labels_at (bare_now s) labels)
