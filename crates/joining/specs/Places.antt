-- A round's labels by their places: the code keeps the places of the label lines and reads the names off the lines. Assumes nothing.
use Rattle.std.specs.Prelude.{ℕ, suc, pred, ◌<◌, ◌≡◌, true, List, [], ◌∷◌, map, ltb, length, get_or}
use Rattle.reference.specs.Control.{when◌then◌else◌}
use Rattle.reference.specs.Lists.{get}
use Rattle.reference.specs.Listing.{Listing, ◌at◌}
use Rattle.reference.specs.Shapes.{is_label}
use Rattle.reference.specs.Life.{Label, Labels}
use Rattle.reference.specs.Join.{text_or_empty}

-- the places of the label lines, the first line being line i
unfoldable pub label_places : ℕ → Listing → List ℕ
label_places i [] = []
label_places i (l ∷ ls) = let r = label_places (suc i) ls in when is_label l then i ∷ r else r

-- the label at a place
abbrev pub label_at : Listing → ℕ → Label
label_at lines p = record { name = text_or_empty (get (lines at p).tokens 0); place = p }

abbrev pub labels_at : Listing → List ℕ → Labels
labels_at lines places = map (label_at lines) places

-- a label line stands at each place
abbrev pub Labelled : Listing → List ℕ → Type 0
Labelled lines places = (k : ℕ) → k < length places → is_label (lines at (get_or places k 0)) ≡ true

-- a place when line i is gone
abbrev pub shift_place : ℕ → ℕ → ℕ
shift_place i p = when ltb i p then pred p else p

abbrev pub shift_places : ℕ → List ℕ → List ℕ
shift_places i places = map (shift_place i) places
