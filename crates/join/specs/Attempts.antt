-- What an attempt finds and what it leaves. Assumes nothing.
use Rattle.std.specs.Prelude as std
use Rattle.std.specs.Prelude.{ℕ, ◌≤◌, ◌≡◌, List, length, get_or}
use Rattle.std.proofs.Math.Option.{Option, none, some}
use Rattle.reference.specs.Text.{Text}
use Rattle.reference.specs.Listing.{Listing}
use Rattle.reference.specs.Rules.{Rules}
use Rattle.reference.specs.Join.{try_at, targets}
use Rattle.joining.specs.Places.{labels_at, Labelled}
use Rattle.joining.specs.Limits.{RunLimits}
use Rattle.joining.specs.Plan.{decide}
use Rattle.lines.specs.Lines.{Reading, part_of}
use Rattle.plan.specs.Plans.{Plans}
use Rattle.plan.specs.Texts.{Slotted}
use Rattle.plan.specs.declared.plans.Join.{Join}
use Rattle.plan.specs.declared.slots.SlotNames.{SlotNames}
use Rattle.build.specs.State.{used}
use Rattle.build.specs.Added.{used_words}
use Rattle.lines.specs.declared.texts.Size.{Size}
use Rattle.join.specs.Contents.{Contents, contents, used_lines, listing_now, bare_now, Current}
use Rattle.join.specs.Carrying.{Handed}
use Rattle.join.specs.Workspaces.{Lent}
use Rattle.join.specs.declared.workspace.Workspace.{Workspace}

-- a listing within the limits, the places of its round's labels, the names that were addressed when the round began, and room for the marks
-- of 256 lines; the table of token words is no larger than a line word can name
pub record Attemptable (tape : Text) (w : Workspace) (labels : List ℕ) (names : SlotNames) (at : Size) : Type 0 where
  pub current : Current (contents tape w at)
  pub limits : RunLimits (bare_now (contents tape w at))
  pub lent : Lent w
  pub words_short : length w.tokens.now ≤ 65536
  pub labelled : Labelled (bare_now (contents tape w at)) labels
  pub slotted : Slotted names
  pub for_marks : 256 ≤ length w.marks.now

-- what is decided at line i
abbrev pub Decided : Rules → List Text → Contents → List ℕ → ℕ → std.Option Join → Type 0
Decided rules names s labels i r =
    Plans s.tape (used s.area s.size) (part_of (used_words s.tokens s.size) (get_or (used_lines s) i 0)) i
    (decide rules (bare_now s) i (labels_at (bare_now s) labels) names) r

-- What `try_at` answers at line i, with what is read as an address.
abbrev pub tried_at : Rules → List Text → Contents → List ℕ → ℕ → Reading → Option Listing
tried_at rules names s labels i addresses = let now = listing_now s addresses in try_at rules now i (labels_at now labels) names

-- the lines that line i is joined into
abbrev pub targets_now : Rules → Contents → List ℕ → ℕ → List ℕ
targets_now rules s labels i = targets rules (bare_now s) i (labels_at (bare_now s) labels)

-- Line i was joined: what is left is the listing that `try_at` answers, whatever is read as an address, and the marks of the line that is
-- gone in those that it was joined into.
pub record Joined (rules : Rules) (names : List Text) (s : Contents) (labels : List ℕ) (i : ℕ) (s' : Contents) : Type 0 where
  pub current : Current s'
  pub tried : (addresses : Reading) → tried_at rules names s labels i addresses ≡ some (listing_now s' addresses)
  pub handed : Handed (used_lines s) i (targets_now rules s labels i) s.lows s.highs s'.lows s'.highs

-- A failed attempt leaves what it found; a successful one answers how much is in use of what it leaves. (`s'` is what stands in the tables
-- afterwards, where so much is in use.)
pub record Attempted (rules : Rules) (names : List Text) (s : Contents) (labels : List ℕ) (i : ℕ) (s' : Size → Contents)
    (r : std.Option Size) : Type 0 where
  pub failed : r ≡ std.None
      → (s' s.size ≡ s) × ((addresses : Reading) → tried_at rules names s labels i addresses ≡ none)
  pub succeeded : (after : Size) → r ≡ std.Some after → Joined rules names s labels i (s' after)
