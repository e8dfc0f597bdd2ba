-- How many calls of a class the list has, and how many of them differ. Assumes nothing.
use Rattle.std.specs.Prelude.{ℕ, zero, suc, ◌+◌, Bool, List, eqb, length, drop, replicate}
use Rattle.reference.specs.Control.{when◌then◌else◌}
use Rattle.test_replay.specs.Frames.{number_in, frame_size}
use Rattle.test_replay.specs.Answers.{agrees}
use Rattle.replays.specs.declared.Counts.{Counts}

-- the call of the frame at the list's front does what the frame wants, every lent byte having been 170
abbrev pub agrees_marked : List ℕ → Bool
agrees_marked list = agrees list (replicate 65600 170) (replicate 65600 170) (replicate 59200 170)

-- the counts with that frame, if it is of the class
unfoldable pub counted : List ℕ → ℕ → Counts → Counts
counted list class n =
    when eqb (number_in list 0) class then
    (when agrees_marked list then record { calls = n.calls + 1; differ = n.differ } else record
    { calls = n.calls + 1; differ = n.differ + 1 })
    else n

-- the counts with all frames of the list. `fuel` bounds them: a frame has a byte or more.
unfoldable pub tally : ℕ → List ℕ → ℕ → Counts → Counts
tally zero list class n = n
tally (suc fuel) list class n =
    let more = tally fuel (drop (frame_size list) list) class (counted list class n) in
    when eqb (frame_size list) 0 then n else more

abbrev pub replayed : List ℕ → ℕ → Counts
replayed list class = tally (length list) list class (record { calls = 0; differ = 0 })
