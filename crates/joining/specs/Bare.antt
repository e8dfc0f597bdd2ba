-- Lines without their addresses: what every reader of a listing looks at. Assumes nothing.
use Rattle.std.specs.Prelude.{map}
use Rattle.std.proofs.Math.Option.{none}
use Rattle.reference.specs.Listing.{Line, Listing}

abbrev pub bare : Line → Line
bare l = record { address = none; indent = l.indent; tokens = l.tokens }

abbrev pub bare_lines : Listing → Listing
bare_lines = map bare
