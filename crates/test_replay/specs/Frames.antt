-- The frames of a list of calls: src/frames.rt says what they hold. Assumes nothing.
use Rattle.std.specs.Prelude.{ℕ, ◌+◌, ◌*◌, ◌≤◌, ◌≡◌, List, Option, MatchOption, leb, length, take, drop}
use Rattle.reference.specs.Control.{when◌then◌else◌}
use Rattle.reference.specs.Tape.{from_le_bytes}

-- a number of the frame at the list's front
abbrev pub number_in : List ℕ → ℕ → ℕ
number_in list k = from_le_bytes (take 4 (drop (4 * k) list))

-- how many bytes that frame says it has
abbrev pub said_size : List ℕ → ℕ
said_size list = 64 + number_in list 5 + number_in list 8

-- the list has all of them
abbrev pub Whole : List ℕ → Type 0
Whole list = said_size list ≤ length list

unfoldable pub frame_size : List ℕ → ℕ
frame_size list = when leb (said_size list) (length list) then said_size list else 0

-- the size of the frame at the list's front, where the list has all of it
abbrev pub Sized : List ℕ → Option ℕ → Type 0
Sized list r = MatchOption r (frame_size list ≡ 0) (λ n. (n ≡ said_size list) × Whole list)

abbrev pub tape_in : List ℕ → List ℕ
tape_in list = take (number_in list 5) (drop 64 list)

abbrev pub output_in : List ℕ → List ℕ
output_in list = take (number_in list 8) (drop (64 + number_in list 5) list)
