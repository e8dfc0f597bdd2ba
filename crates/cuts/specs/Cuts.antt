-- What the cuts find and what they leave. Assumes nothing.
use Rattle.std.specs.Prelude.{ℕ, ◌≤◌, ◌≡◌, Bool, true, false, List, eqb, length}
use Rattle.reference.specs.Control.{◌and◌, ◌or◌, let_some◌else◌then◌}
use Rattle.reference.specs.Lists.{get}
use Rattle.reference.specs.Text.{Text, bytes, ◌≟◌}
use Rattle.reference.specs.Listing.{Token, Listing}
use Rattle.reference.specs.Rules.{Rules}
use Rattle.reference.specs.Shapes.{call_in}
use Rattle.reference.specs.Life.{Labels}
use Rattle.reference.specs.Join.{text_or_empty}
use Rattle.reference.specs.Run.{dead_result, last_of}
use Rattle.joining.specs.Places.{labels_at, Labelled}
use Rattle.joining.specs.Rounds.{cut_at}
use Rattle.lines.specs.Lines.{Reading, listing_read, bare_listing, Listed}

-- a line that assigns the result of a call to rax or eax: what `dead_result` asks of the line itself
unfoldable pub keeps_result : List Token → Bool
keeps_result ts =
    (let_some (call_in ts) else false then λ c. eqb c 2)
    and ((text_or_empty (get ts 0) ≟ bytes "rax") or (text_or_empty (get ts 0) ≟ bytes "eax"))
    and (text_or_empty (get ts 1) ≟ bytes " = ")

-- a listing that can be read, of at most 256 lines, with few enough token words that a line's first token can be moved on, and the places
-- of its labels
pub record Cuttable (tape area : Text) (tokens lines labels : List ℕ) : Type 0 where
  pub listed : Listed tape area tokens lines
  pub few : length lines ≤ 256
  pub short : length tokens ≤ 65536
  pub labelled : Labelled (bare_listing tape area tokens lines) labels

abbrev pub labels_now : Text → Text → List ℕ → List ℕ → List ℕ → Labels
labels_now tape area tokens lines labels = labels_at (bare_listing tape area tokens lines) labels

-- whether line i assigns a result that is never read
abbrev pub dead_at : Rules → Text → Text → List ℕ → List ℕ → List ℕ → ℕ → Bool
dead_at rules tape area tokens lines labels i =
    dead_result rules (labels_now tape area tokens lines labels) (bare_listing tape area tokens lines) i

-- line i is cut where its result is dead, and r says whether it is
pub record Dropped (rules : Rules) (tape area : Text) (tokens lines labels : List ℕ) (i : ℕ) (lines' : List ℕ) (r : Bool) : Type 0 where
  pub told : r ≡ dead_at rules tape area tokens lines labels i
  pub kept : dead_at rules tape area tokens lines labels i ≡ false → lines' ≡ lines
  pub cut : dead_at rules tape area tokens lines labels i ≡ true
      → Listed tape area tokens lines'
      × ((addresses : Reading) → listing_read tape area tokens addresses lines' ≡ cut_at i (listing_read tape area tokens addresses lines))

-- the cuts `cuts` were made, one after the other, and r is how many; whatever the addresses are
pub record Cut (cuts : Listing → List Listing) (tape area : Text) (tokens lines lines' : List ℕ) (r : ℕ) : Type 0 where
  pub listed : Listed tape area tokens lines'
  pub finished : (addresses : Reading) → listing_read tape area tokens addresses lines'
      ≡ last_of (listing_read tape area tokens addresses lines) (cuts (listing_read tape area tokens addresses lines))
  pub count : (addresses : Reading) → r ≡ length (cuts (listing_read tape area tokens addresses lines))
