-- The tape of document 01, and its form by offset (M-110): a list of bytes that holds a listing, command after command, and marks of its
-- lines. How a listing is written, and what the command at the head of some bytes says. Which tapes are accepted is asked in
-- Questions.antt. Assumes nothing.
use Rattle.std.specs.Prelude.{ℕ, zero, suc, ◌+◌, ◌*◌, ◌-◌, ◌/◌, ◌%◌, eqb, length, get_or, take, drop}
use mathlib.Core.List.{List, [], ◌∷◌, ◌++◌, flat_map}
use Rattle.std.proofs.Math.Option.{Option, none, some}
use Rattle.reference.specs.Control.{when◌then◌else◌}
use Rattle.reference.specs.Listing.{Token, token, Line, Listing}
use Rattle.reference.specs.Spans.{Span, Marks}

-- ---- numbers, the lowest byte first

-- `v.to_le_bytes()`, of n bytes
unfoldable pub to_le_bytes : ℕ → ℕ → List ℕ
to_le_bytes zero v = []
to_le_bytes (suc n) v = v % 256 ∷ to_le_bytes n (v / 256)

unfoldable pub from_le_bytes : List ℕ → ℕ
from_le_bytes [] = 0
from_le_bytes (b ∷ bs) = b + 256 * from_le_bytes bs

-- ---- the two forms of a tape

pub data TapeForm : Type 0 where
  -- document 01's: addresses of 8 bytes
  old : TapeForm
  -- M-110's, "by offset from the load address": 06 and an 8-byte base first, then commands whose addresses are offsets of 4 bytes
  offsets : TapeForm

-- the byte of an addressed line: "each addressed line is 04 with a 4-byte offset and 1 byte indent in place of 01"
abbrev pub line_byte : TapeForm → ℕ
line_byte old = 0x01
line_byte offsets = 0x04

-- the byte of marks: "tapes with 03 marks get 05 with two 4-byte offsets"
abbrev pub marks_byte : TapeForm → ℕ
marks_byte old = 0x03
marks_byte offsets = 0x05

-- how many bytes an address has
abbrev pub width : TapeForm → ℕ
width old = 8
width offsets = 4

-- how many bytes stand before the first command
abbrev pub header : TapeForm → ℕ
header old = 0
header offsets = 9

-- What follows is said for a form; the names without "-by" are the old form's.

-- ---- commands

pub data Command : Type 0 where
  -- 01 (04) and 02: a line, with its address if it has one, and its indent; an address is an offset in the form by offset
  new_line : Option ℕ → ℕ → Command
  -- 03 (05): the marks of the line begun just before it (M-105)
  marked : Span → Command
  -- 10 to 17: a token of the line begun last
  new_token : Token → Command
  -- FF
  end : Command

unfoldable pub write_command_by : TapeForm → Command → List ℕ
write_command_by form (new_line (some address) indent) = line_byte form ∷ to_le_bytes (width form) address ++ (indent ∷ [])
write_command_by form (new_line none indent) = 0x02 ∷ indent ∷ []
write_command_by form (marked s) = marks_byte form ∷ to_le_bytes (width form) s.lowest ++ to_le_bytes (width form) s.highest
write_command_by form (new_token t) = (0x10 + t.kind) ∷ to_le_bytes 2 (length t.text) ++ t.text
write_command_by form end = 0xFF ∷ []

abbrev pub write_command : Command → List ℕ
write_command = write_command_by old

-- ---- writing a listing

-- "After a line's command the output tape has 03 with two 8-byte addresses, lowest first, if there is any"
unfoldable pub write_marks_by : TapeForm → Marks → List ℕ
write_marks_by form none = []
write_marks_by form (some s) = write_command_by form (marked s)

unfoldable pub write_line_by : TapeForm → Line → Marks → List ℕ
write_line_by form l m =
    write_command_by form (new_line l.address l.indent)
    ++ write_marks_by form m
    ++ flat_map (λ t. write_command_by form (new_token t)) l.tokens

-- lines and their marks; where these run out, there are none
unfoldable pub write_lines_by : TapeForm → Listing → List Marks → List ℕ
write_lines_by form [] marks = []
write_lines_by form (l ∷ ls) marks = write_line_by form l (get_or marks 0 none) ++ write_lines_by form ls (drop 1 marks)

-- the commands of a listing with marks: in the old form its tape, in the form by offset what follows 06 and the base
unfoldable pub write_by : TapeForm → Listing → List Marks → List ℕ
write_by form lines marks = write_lines_by form lines marks ++ write_command_by form end

abbrev pub write_marks : Marks → List ℕ
write_marks = write_marks_by old

abbrev pub write_line : Line → Marks → List ℕ
write_line = write_line_by old

abbrev pub write_lines : Listing → List Marks → List ℕ
write_lines = write_lines_by old

-- the tape of a listing with marks; `write lines []` is the one without any
abbrev pub write : Listing → List Marks → List ℕ
write = write_by old

-- ---- reading one command, at the head of the bytes that are left

-- the length that a token's command gives for its text
abbrev pub text_length : List ℕ → ℕ
text_length rest = from_le_bytes (take 2 (drop 1 rest))

-- how many bytes the command has, its operand and text included
unfoldable pub command_size_by : TapeForm → List ℕ → ℕ
command_size_by form rest =
    when eqb (get_or rest 0 0) (line_byte form) then 2 + width form
    else when eqb (get_or rest 0 0) 0x02 then 2
    else when eqb (get_or rest 0 0) (marks_byte form) then 1 + width form + width form
    else when eqb (get_or rest 0 0) 0xFF then 1
    else 3 + text_length rest

-- the address, or the offset, that stands a number of bytes behind the head
abbrev pub address_at : TapeForm → ℕ → List ℕ → ℕ
address_at form n rest = from_le_bytes (take (width form) (drop n rest))

-- the command, once it is known that its first byte is one (question 3) and that all its bytes are there (question 4)
unfoldable pub command_by : TapeForm → List ℕ → Command
command_by form rest =
    when eqb (get_or rest 0 0) (line_byte form) then new_line (some (address_at form 1 rest)) (get_or rest (1 + width form) 0)
    else when eqb (get_or rest 0 0) 0x02 then new_line none (get_or rest 1 0)
    else when eqb (get_or rest 0 0) (marks_byte form)
    then marked (record { lowest = address_at form 1 rest; highest = address_at form (1 + width form) rest })
    else when eqb (get_or rest 0 0) 0xFF then end
    else new_token (token (get_or rest 0 0 - 0x10) (take (text_length rest) (drop 3 rest)))

abbrev pub command_size : List ℕ → ℕ
command_size = command_size_by old

abbrev pub command_of : List ℕ → Command
command_of = command_by old

-- ---- a tape without its 03s: "equality with the Rust leaves these marks out"

unfoldable pub unmarked_from : ℕ → List ℕ → List ℕ
unmarked_from zero rest = []
unmarked_from (suc fuel) rest =
    let more : List ℕ = unmarked_from fuel (drop (command_size rest) rest) in
    when eqb (get_or rest 0 0) 0x03 then more else take (command_size rest) rest ++ more

-- command after command; no question is asked
unfoldable pub unmarked : List ℕ → List ℕ
unmarked tape = unmarked_from (length tape) tape
