-- Request M-110: a tape brought from document 01's form to the form by offset from the load address, and back. What each of the two calls
-- answers; every byte of the output afterwards is crate answers' `Writes` of it. Assumes nothing.
use Rattle.std.specs.Prelude.{ℕ, zero, suc, ◌+◌, ◌-◌, ◌^◌, Bool, List, [], ◌∷◌, ◌++◌, leb, ltb, eqb, length, get_or, take, drop}
use Rattle.std.proofs.Math.Option.{Option, none, some}
use Rattle.reference.specs.Control.{◌or◌, when◌then◌else◌, let_some◌else◌then◌}
use Rattle.reference.specs.Lists.{any}
use Rattle.reference.specs.Listing.{Line, Listing}
use Rattle.reference.specs.Spans.{Marks}
use Rattle.reference.specs.Tape.{to_le_bytes, from_le_bytes, TapeForm, old, offsets, header}
use Rattle.reference.specs.Tape.{Command, new_line, marked, new_token, end, write_by, command_size_by, command_by}
use Rattle.reference.specs.Questions.{Answer, Refused, Passed, ask, let_passed◌then◌, is_end, read_by, marks_in_by}

-- "An output below 59,146 bytes earns 2."
abbrev pub OUTPUT : ℕ
OUTPUT = 59146

-- 2. Is the output at least 59,146 bytes?
unfoldable pub has_output : ℕ → Bool
has_output output = leb OUTPUT output

-- ---- "The new tape form begins with 06 and an 8-byte base"

unfoldable pub front : ℕ → List ℕ
front base = 0x06 ∷ to_le_bytes 8 base

unfoldable pub base_of : List ℕ → ℕ
base_of tape = from_le_bytes (take 8 (drop 1 tape))

-- 19. Does the tape begin with 06?
unfoldable pub begins_with_06 : List ℕ → Bool
begins_with_06 tape = eqb (get_or tape 0 0) 0x06

-- 4, of 06: does its base end inside the tape?
unfoldable pub has_base : List ℕ → Bool
has_base tape = leb (header offsets) (length tape)

-- The listing that an accepted tape of the new form holds, its addresses being offsets: "19 .. before the other tape questions". What
-- follows 06 and the base is asked as document 01 asks, with 04 for 01 and 05 for 03.
unfoldable pub read_offsets : List ℕ → Answer Listing
read_offsets tape = ask (λ number. 0) ((19, begins_with_06 tape) ∷ (4, has_base tape) ∷ []) (read_by offsets tape)

-- ---- the addresses of a command, a listing and marks

unfoldable pub addresses : Command → List ℕ
addresses (new_line none indent) = []
addresses (new_line (some address) indent) = address ∷ []
addresses (marked s) = s.lowest ∷ s.highest ∷ []
addresses (new_token t) = []
addresses end = []

unfoldable pub move_line : (ℕ → ℕ) → Line → Line
move_line f l =
    record { address = let_some l.address else none then λ a. some (f a); indent = l.indent; tokens = l.tokens }

unfoldable pub move_marks : (ℕ → ℕ) → Marks → Marks
move_marks f m = let_some m else none then λ s. some (record { lowest = f s.lowest; highest = f s.highest })

-- the same listing and the same marks, each address a in them being f a
unfoldable pub move_lines : (ℕ → ℕ) → Listing → Listing
move_lines f [] = []
move_lines f (l ∷ ls) = move_line f l ∷ move_lines f ls

unfoldable pub move_all_marks : (ℕ → ℕ) → List Marks → List Marks
move_all_marks f [] = []
move_all_marks f (m ∷ ms) = move_marks f m ∷ move_all_marks f ms

-- ---- 18, "at the first such command, asked once the tape is read"

-- the place of the first command, from an offset on, that has an address of which `bad` holds
unfoldable pub first_from : TapeForm → (ℕ → Bool) → ℕ → List ℕ → ℕ → Option ℕ
first_from form bad zero tape at = none
first_from form bad (suc fuel) tape at =
    let rest : List ℕ = drop at tape in
    let more : Option ℕ = first_from form bad fuel tape (at + command_size_by form rest) in
    when any bad (addresses (command_by form rest)) then some at else when is_end (command_by form rest) then none else more

unfoldable pub first_with : TapeForm → (ℕ → Bool) → List ℕ → Option ℕ
first_with form bad tape = first_from form bad (length tape) tape (header form)

-- "an address below the base or 2^32 or more above it"
unfoldable pub out_of_reach : ℕ → ℕ → Bool
out_of_reach base address = ltb address base or leb (base + 2 ^ 32) address

-- "or on the way back a sum above 2^64 - 1"
unfoldable pub wraps : ℕ → ℕ → Bool
wraps base offset = leb (2 ^ 64) (base + offset)

-- ---- the two calls

-- a tape of one form that holds `lines` brought to the other form, each address a becoming f a, after the bytes that begin the other form
unfoldable pub convert : TapeForm → TapeForm → (ℕ → Bool) → (ℕ → ℕ) → List ℕ → List ℕ → Listing → Answer (List ℕ)
convert form other bad f begin tape lines =
    let_some (first_with form bad tape)
    else Passed (begin ++ write_by other (move_lines f lines) (move_all_marks f (marks_in_by form tape)))
    then λ place. Refused 18 place

-- the base, the tape, and how many bytes the output has: a refusal, or the tape of the new form
unfoldable pub to_offsets : ℕ → List ℕ → ℕ → Answer (List ℕ)
to_offsets base tape output =
    ask (λ number. 0) ((2, has_output output) ∷ [])
    (let_passed (read_by old tape) then convert old offsets (out_of_reach base) (λ address. address - base) (front base) tape)

-- the tape, and how many bytes the output has: a refusal, or the tape of the old form
unfoldable pub from_offsets : List ℕ → ℕ → Answer (List ℕ)
from_offsets tape output =
    ask (λ number. 0) ((2, has_output output) ∷ [])
    (let_passed (read_offsets tape) then convert offsets old (wraps (base_of tape)) (λ offset. base_of tape + offset) [] tape)
