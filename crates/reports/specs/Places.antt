-- Where in a listing an offset of its tape is: the line and the token, counted from 1. Assumes nothing.
use Rattle.std.specs.Prelude.{ℕ, ◌+◌, List, [], ◌∷◌, ltb}
use Rattle.reference.specs.Control.{when◌then◌else◌}
use Rattle.reference.specs.Tape.{Command, new_line, marked, new_token, end}
use Rattle.tape.specs.Held.{Place, places}
use Rattle.reports.specs.declared.places.Spot.{Spot}

-- before the first line: line 0; at a line's own command or its marks: token 0
abbrev pub nowhere : Spot
nowhere = record { line = 0; token = 0 }

-- with one command more
abbrev pub after : Spot → Command → Spot
after s (new_line address indent) = record { line = s.line + 1; token = 0 }
after s (marked span) = s
after s (new_token t) = record { line = s.line; token = s.token + 1 }
after s end = s

-- with the commands that stand up to a place, which is in the last of them
unfoldable pub spot_from : Spot → ℕ → List Place → Spot
spot_from s place [] = s
spot_from s place (p ∷ more) = let rest = spot_from (after s p.1) place more in when ltb place p.0 then s else rest

unfoldable pub spot_of : List ℕ → ℕ → Spot
spot_of tape place = spot_from nowhere place (places tape)
