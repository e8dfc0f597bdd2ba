-- What stands at the head of a list of names (Start.antt), as the code answers it. Assumes nothing.
use Rattle.std.specs.Prelude.{ℕ, ◌+◌, List, [], ◌∷◌, leb, length, drop}
use Rattle.std.specs.Prelude as std
use Rattle.std.proofs.Math.Option.{Option, none, some}
use Rattle.reference.specs.Control.{when◌then◌else◌}
use Rattle.start.specs.Start.{Entry, entry_of}
use Rattle.start.specs.declared.listed.Entry.{Entry as First}

-- the first entry of a list, where it is there as a whole, and the bytes behind it
unfoldable pub head_of : List ℕ → Option (Entry × List ℕ)
head_of [] = none
head_of (n ∷ rest) = when leb (n + 8) (length rest) then some (entry_of n rest, drop (n + 8) rest) else none

-- an answer of the code
abbrev pub shown : std.Option First → Option (Entry × List ℕ)
shown (std.Some e) = some (record { name = e.name.now; value = e.value }, e.rest.now)
shown std.None = none
