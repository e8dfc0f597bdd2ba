-- The line that tells a refusal by the questions of a tape. Assumes nothing.
use Rattle.std.specs.Prelude.{ℕ, ◌+◌, ◌||◌, Bool, List, [], ◌∷◌, ◌++◌, eqb, ltb, if◌then◌else◌}
use Rattle.reference.specs.Text.{Text, bytes}
use Rattle.printing.specs.Decimals.{decimal}
use Rattle.reports.specs.declared.places.Spot.{Spot}
use Rattle.reports.specs.Places.{nowhere, spot_of}
use Rattle.reports.specs.Reports.{head}
use Rattle.reports.specs.Why.{words}

-- of 3 and 4 no command stands whole at the place, and of 8 it is the end: what is known is the command before it
abbrev pub is_behind : ℕ → Bool
is_behind number = eqb number 3 || eqb number 4 || eqb number 8

abbrev pub to_line : ℕ → Text
to_line number = if is_behind number then bytes ", behind line " else bytes ", line "

abbrev pub token_part : Spot → Text
token_part s = if eqb s.token 0 then [] else bytes ", token " ++ decimal s.token

-- the line and the token, where a line has begun
unfoldable pub located : ℕ → Spot → Text
located number s = if eqb s.line 0 then [] else to_line number ++ decimal s.line ++ token_part s

-- Where a refusal is: of 14 the place is the line itself, counted from 0, and a listing has 256 lines at most.
abbrev pub line_told : ℕ → Spot
line_told place = if ltb place 256 then record { line = place + 1; token = 0 } else nowhere

abbrev pub spot_told : List ℕ → ℕ → ℕ → Spot
spot_told tape number place = if eqb number 14 then line_told place else spot_of tape place

-- refused NUMBER at PLACE, line LINE, token TOKEN: WORDS
unfoldable pub explained : List ℕ → ℕ → ℕ → Text
explained tape number place =
    head number place ++ located number (spot_told tape number place) ++ bytes ": " ++ words tape number place ++ (10 ∷ [])
