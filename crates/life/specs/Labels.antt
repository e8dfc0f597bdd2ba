-- What `gather_labels` leaves, and what is said of a listing with the places of its labels. Assumes nothing.
use Rattle.std.specs.Prelude.{ℕ, ◌≡◌, List, ◌++◌, length, drop}
use Rattle.reference.specs.Life.{Labels}
use Rattle.joining.specs.Places as Places
use Rattle.lines.specs.Texts.{Listed, bare_listing}
use Rattle.life.specs.declared.labels.LabelledListing.{LabelledListing}

-- `places` stand in front, and n is how many they are; what stood behind them stays
pub record Gathered (places before after : List ℕ) (n : ℕ) : Type 0 where
  pub size : n ≡ length places
  pub is : after ≡ places ++ drop n before

-- the listing can be read, and at each of the places stands a label
abbrev pub Labelled : LabelledListing → Type 0
Labelled g = Listed g.listing × Places.Labelled (bare_listing g.listing) g.labels.now

-- the labels at these places
abbrev pub labels_of : LabelledListing → Labels
labels_of g = Places.labels_at (bare_listing g.listing) g.labels.now
