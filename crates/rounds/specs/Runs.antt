-- What a whole run finds and what it leaves. Assumes nothing.
use Rattle.std.specs.Prelude.{ℕ, ◌+◌, ◌*◌, ◌≤◌, ◌≡◌, Bool, [], ◌∷◌, length, get_or, slice_set}
use mathlib.Core.List.{List, flatten}
use Rattle.reference.specs.Control.{when◌then◌else◌}
use Rattle.reference.specs.Text.{Text}
use Rattle.reference.specs.Rules.{Rules}
use Rattle.reference.specs.Run as R
use Rattle.joining.specs.Limits.{RunLimits}
use Rattle.lines.specs.Lines.{Reading}
use Rattle.lines.specs.declared.texts.Size.{Size}
use Rattle.join.specs.Current as slices
use Rattle.join.specs.Contents.{Contents, contents, listing_now, bare_now, Current}
use Rattle.join.specs.Workspaces.{Lent}
use Rattle.join.specs.declared.workspace.Workspace.{Workspace}
use Rattle.raising.specs.Tables.{Kept}
use Rattle.raising.specs.declared.tables.Raising.{Raising}
use Rattle.rounds.specs.Carries.{Carries}
use Rattle.rounds.specs.Cautions.{Raises}
use Rattle.rounds.specs.declared.rounds.Round.{Round}
use Rattle.rounds.specs.declared.run.Tally.{Tally}
use Rattle.rounds.specs.declared.run.Tally.TheVariants.{Three, Settled}
use Rattle.rounds.specs.declared.run.Outcome.{Outcome}
use Rattle.rounds.specs.declared.run.Progress.{Progress}

-- ---- what is lent

-- A listing within the limits, and room for its rounds; the table of token words is no larger than a line word can name, and there is room
-- for the marks of 256 lines.
pub record Runnable (tape : Text) (w : Workspace) (at : Size) : Type 0 where
  pub current : Current (contents tape w at)
  pub limits : RunLimits (bare_now (contents tape w at))
  pub lent : Lent w
  pub words_short : length w.tokens.now ≤ 65536
  pub for_marks : 256 ≤ length w.marks.now

-- room for the labels of 256 lines, and for the addressed names of a listing within the limits
pub record Gatherable (labels : List ℕ) (slots : Text) (slot-words : List ℕ) : Type 0 where
  pub for_labels : 256 ≤ length labels
  pub for_slots : 49152 ≤ length slots
  pub for_slot_words : 1024 ≤ length slot-words

-- other line words of the same listing, whatever the addresses are
pub record SameListing (tape area : Text) (tokens lines : List ℕ) (at : Size) (lines' : List ℕ) : Type 0 where
  pub current : slices.Current tape area tokens lines' at
  pub means : (addresses : Reading)
      → slices.listing_now tape area tokens lines' at addresses ≡ slices.listing_now tape area tokens lines at addresses

-- ---- the rounds

-- how many rounds are made of n lines at most
unfoldable pub most_rounds : Bool → ℕ → ℕ
most_rounds settle n = when settle then n + 1 else 3

abbrev pub after_round : Progress → Round → Progress
after_round s r =
    record {
      made = s.made + 1;
      each = slice_set s.each s.made r.attempts;
      attempts = s.attempts + r.attempts;
      removed = s.removed + r.removed;
      size = r.size;
    }

-- the counts can be raised: a round makes at most 512 attempts
pub record Few (s : Progress) : Type 0 where
  pub rounds : s.made ≤ 257
  pub attempts : s.attempts ≤ 512 * s.made
  pub removed : s.removed ≤ 512 * s.made

-- what is told of these rounds
pub record Counted (rounds : List (List R.Attempt)) (s : Progress) : Type 0 where
  pub made_are : s.made ≡ length rounds
  pub each_is : s.each ≡ R.attempts_in 0 rounds ∷ R.attempts_in 1 rounds ∷ R.attempts_in 2 rounds ∷ []
  pub attempts_are : s.attempts ≡ length (flatten rounds)
  pub removed_is : s.removed ≡ R.removals (flatten rounds)

-- the rounds of the run were made, and nothing was cut yet; whatever the addresses are
pub record Rounded (rules : Rules) (s : Contents) (t : Raising) (s' : Contents) (t' : Raising) (p : Progress) : Type 0 where
  pub current : Current s'
  pub limits : RunLimits (bare_now s')
  pub left : (addresses : Reading)
      → let before = listing_now s addresses in listing_now s' addresses ≡ R.after_rounds before (R.run rules before).rounds
  pub counted : (addresses : Reading) → Counted (R.run rules (listing_now s addresses)).rounds p
  pub marks : (addresses : Reading) → Carries (R.attempts_of (R.run rules (listing_now s addresses))) s s'
  pub kept : Kept (bare_now s') t'
  pub raised : (addresses : Reading)
      → let before = listing_now s addresses in Raises rules before (R.attempts_of (R.run rules before)) s t s' t'

-- ---- what a run tells

abbrev pub tally_of : Tally → R.Tally
tally_of (Three first second third) = R.three first second third
tally_of (Settled rounds attempts) = R.settled rounds attempts

abbrev pub told_of : Bool → Progress → R.Tally
told_of settle s = when settle then R.settled s.made s.attempts else R.three (get_or s.each 0 0) (get_or s.each 1 0) (get_or s.each 2 0)

abbrev pub counts_of : Outcome → R.Counts
counts_of r = record { tally = tally_of r.tally; lines_removed = r.removed; results_cut = r.cut }

-- the finished listing is left, the counts are the run's, and the marks those that its attempts carry on; whatever the addresses are
pub record Ran (rules : Rules) (s s' : Contents) (r : Outcome) : Type 0 where
  pub current : Current s'
  pub finished : (addresses : Reading) → listing_now s' addresses ≡ R.finished rules (listing_now s addresses)
  pub counts : (addresses : Reading) → counts_of r ≡ R.counts rules (R.run rules (listing_now s addresses))
  pub marks : (addresses : Reading) → Carries (R.attempts_of (R.run rules (listing_now s addresses))) s s'
