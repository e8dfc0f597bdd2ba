-- Document 01's questions, one by one, and the reading of a tape: the listing that it holds, or the number and place of the first question
-- that is answered "no". Assumes nothing.
use Rattle.std.specs.Prelude.{ℕ, zero, suc, pred, ◌+◌, Bool, true, false, List, [], ◌∷◌, ◌++◌, leb, ltb, eqb, length, drop}
use Rattle.std.proofs.Math.Option.{none, some}
use Rattle.reference.specs.Control.{not, ◌and◌, ◌or◌, when◌then◌else◌, let_some◌else◌then◌}
use Rattle.reference.specs.Lists.{any, position, is_empty, modify}
use Rattle.reference.specs.Listing.{is, Number, Listing, with_tokens}
use Rattle.reference.specs.Rules.{Rules}
use Rattle.reference.specs.Spans.{Marks}
use Rattle.reference.specs.Tape.{TapeForm, old, line_byte, marks_byte, header}
use Rattle.reference.specs.Tape.{Command, new_line, marked, new_token, end, command_size_by, command_by}

-- The numbers by which a cleaning can be refused, in the order in which they are asked: document 01's eight and, of the requests' numbers,
-- 9 to 11 and 14. "Demand 1's eight and their order take in this number and each one below." (12, 13 and 15 to 22 are of other calls.)
abbrev pub numbers : List ℕ
numbers = 1 ∷ 9 ∷ 2 ∷ 3 ∷ 4 ∷ 5 ∷ 6 ∷ 10 ∷ 11 ∷ 7 ∷ 8 ∷ 14 ∷ []

-- what every work area has at least, and every output
abbrev pub WORK : ℕ
WORK = 49152

abbrev pub OUTPUT : ℕ
OUTPUT = 59137

-- 1. Is the convention 0, 1 or 2?
unfoldable pub is_convention : Rules → Bool
is_convention rules = leb rules.convention 2

-- 9. Is the edition 0 or 1? (M-100: "asked just after the convention")
unfoldable pub is_edition : Rules → Bool
is_edition rules = leb rules.edition 1

-- 2. Are both work areas at least 49,152 bytes (M-109) and the output at least 59,137?
-- The figure for the work areas is a parameter, so that it can be said what another one would change (proofs/WorkSpace.antt).
unfoldable pub has_room_by : ℕ → ℕ → ℕ → ℕ → Bool
has_room_by figure work_a work_b output = leb figure work_a and leb figure work_b and leb OUTPUT output

abbrev pub has_room : ℕ → ℕ → ℕ → Bool
has_room = has_room_by WORK

-- Then for each command from the left: `rest` is the tape from its offset on, `c` the command there, `t` the totals of the commands before
-- it.

pub record Totals : Type 0 where
  pub lines : ℕ
  pub tokens : ℕ
  pub text : ℕ
  -- whether the command just before is a line's
  pub fresh : Bool

-- 3. Is there a byte, and is it a command? (By offset "01, 03 and a later 06 earn 3".)
unfoldable pub is_command_by : TapeForm → List ℕ → Bool
is_command_by form [] = false
is_command_by form (b ∷ rest) = eqb b (line_byte form) or eqb b 0x02 or eqb b (marks_byte form) or (leb 0x10 b and leb b 0x17) or eqb b 0xFF

-- 4. Do its operand and text end inside the tape?
unfoldable pub ends_inside_by : TapeForm → List ℕ → Bool
ends_inside_by form rest = leb (command_size_by form rest) (length rest)

abbrev pub is_command : List ℕ → Bool
is_command = is_command_by old

abbrev pub ends_inside : List ℕ → Bool
ends_inside = ends_inside_by old

-- 5. If a token, has a line begun? "Input tapes may carry 03 directly after a line's command, once; elsewhere, or with its lowest above its
-- highest, it earns 5." ("There 04 and 05 are asked what 01 and 03 are.")
unfoldable pub has_line : Totals → Command → Bool
has_line t (new_line address indent) = true
has_line t (marked s) = t.fresh and leb s.lowest s.highest
has_line t (new_token s) = leb 1 t.lines
has_line t end = true

-- 6. Is indent at most 63, each text at least 1 byte, each N text at most 24? "Keep 6 for indent, empty text and long numbers."
unfoldable pub is_within : Command → Bool
is_within (new_line address indent) = leb indent 63
is_within (marked s) = true
is_within (new_token s) = leb 1 (length s.text) and (not (is Number s) or leb (length s.text) 24)
is_within end = true

-- 10. With this command, are lines at most 256 and tokens 1,024? "10, more than 256 lines or 1,024 tokens, after 6"
unfoldable pub is_few : Totals → Command → Bool
is_few t (new_line address indent) = leb (t.lines + 1) 256
is_few t (marked s) = true
is_few t (new_token s) = leb (t.tokens + 1) 1024
is_few t end = true

-- 11. With this command, is all text at most 24,576 bytes? "11, text over 24,576 bytes, after 10 and before 7"
unfoldable pub is_short : Totals → Command → Bool
is_short t (new_line address indent) = true
is_short t (marked s) = true
is_short t (new_token s) = leb (t.text + length s.text) 24576
is_short t end = true

-- 7. Is each text byte 20 to 7E?
abbrev pub is_offending : ℕ → Bool
is_offending b = ltb b 0x20 or ltb 0x7E b

unfoldable pub is_printable : Command → Bool
is_printable (marked s) = true
is_printable (new_line address indent) = true
is_printable (new_token s) = not (any is_offending s.text)
is_printable end = true

-- 8. After FF, is the tape over?
unfoldable pub is_over : List ℕ → Command → Bool
is_over rest (marked s) = true
is_over rest (new_line address indent) = true
is_over rest (new_token s) = true
is_over rest end = is_empty (drop 1 rest)

-- ---- places

-- how far behind its command the first offending byte stands; a token's text begins 3 bytes behind it
unfoldable pub first_offending : Command → ℕ
first_offending (new_line address indent) = 0
first_offending (marked s) = 0
first_offending (new_token s) = 3 + (let_some (position is_offending s.text) else 0 then λ i. i)
first_offending end = 0

-- The place of each number at the command c, which stands at an offset: the command's.
-- "For 7 they want the offset of the first offending byte, not of its command."
unfoldable pub place_at : ℕ → Command → ℕ → ℕ
place_at at c number = when eqb number 7 then at + first_offending c else at

-- ---- asking

-- the number and place of a question answered "no", or what is said where all are answered "yes"
pub data Answer (A : Type 0) : Type 0 where
  Refused : ℕ → ℕ → Answer A
  Passed : A → Answer A

module _ {A : Type 0} where
  -- "Asked in order; the first "no" gives its number", and its number the place. Of two questions that would refuse one command the first
  -- in the list is given: a token before any line is 4 if it runs past the tape, otherwise 5, also with an empty text.
  unfoldable pub ask : (ℕ → ℕ) → List (ℕ × Bool) → Answer A → Answer A
  ask place [] a = a
  ask place (q ∷ more) a = let r = ask place more a in when q.1 then r else Refused q.0 (place q.0)

  -- `let x = a?; k(x)`
  infixr 1 let_passed◌then◌
  unfoldable pub let_passed◌then◌ : {B : Type 0} → Answer B → (B → Answer A) → Answer A
  let_passed (Refused number place) then k = Refused number place
  let_passed (Passed b) then k = k b

-- ---- one command

-- the totals with one command more
unfoldable pub count_in : Command → Totals → Totals
count_in (new_line address indent) t = record { lines = t.lines + 1; tokens = t.tokens; text = t.text; fresh = true }
count_in (marked s) t = record { lines = t.lines; tokens = t.tokens; text = t.text; fresh = false }
count_in (new_token s) t = record { lines = t.lines; tokens = t.tokens + 1; text = t.text + length s.text; fresh = false }
count_in end t = t

-- a command, the offset after it, and the totals with it
pub record Advance : Type 0 where
  pub command : Command
  pub next : ℕ
  pub totals : Totals

-- the command at an offset of a tape, the totals so far being t
unfoldable pub read_command_by : TapeForm → List ℕ → ℕ → Totals → Answer Advance
read_command_by form tape at t =
    let rest : List ℕ = drop at tape in
    let c : Command = command_by form rest in
    ask (place_at at c)
    ((3, is_command_by form rest)
    ∷ (4, ends_inside_by form rest)
    ∷ (5, has_line t c)
    ∷ (6, is_within c)
    ∷ (10, is_few t c)
    ∷ (11, is_short t c)
    ∷ (7, is_printable c)
    ∷ (8, is_over rest c)
    ∷ [])
    (Passed (record { command = c; next = at + command_size_by form rest; totals = count_in c t }))

abbrev pub read_command : List ℕ → ℕ → Totals → Answer Advance
read_command = read_command_by old

-- ---- the whole tape

abbrev pub is_end : Command → Bool
is_end (new_line address indent) = false
is_end (marked s) = false
is_end (new_token s) = false
is_end end = true

-- the listing with one command more: marks are no part of it
unfoldable pub add : Command → Listing → Listing
add (new_line address indent) lines = lines ++ (record { address = address; indent = indent; tokens = [] } ∷ [])
add (new_token t) lines = modify (pred (length lines)) (λ l. with_tokens (l.tokens ++ (t ∷ [])) l) lines
add (marked s) lines = lines
add end lines = lines

-- before the first command
abbrev pub no_commands : Totals
no_commands = record { lines = 0; tokens = 0; text = 0; fresh = false }

-- the commands from an offset on, after those that made `lines`. `fuel` bounds them: a command has a byte or more, so where as much fuel as
-- the tape has bytes left is used up, there is no byte.
unfoldable pub read_from_by : TapeForm → ℕ → List ℕ → ℕ → Totals → Listing → Answer Listing
read_from_by form zero tape at t lines = Refused 3 at
read_from_by form (suc fuel) tape at t lines =
    let_passed (read_command_by form tape at t) then λ a.
    let more : Answer Listing = read_from_by form fuel tape a.next a.totals (add a.command lines) in
    when is_end a.command then Passed lines else more

-- the commands of a tape, from the first on
unfoldable pub read_by : TapeForm → List ℕ → Answer Listing
read_by form tape = read_from_by form (length tape) tape (header form) (no_commands) []

abbrev pub read_from : ℕ → List ℕ → ℕ → Totals → Listing → Answer Listing
read_from = read_from_by old

-- the listing of an accepted tape
abbrev pub read : List ℕ → Answer Listing
read = read_by old

-- ---- the 03s

-- the marks that were read in, line by line, with one command more
unfoldable pub add_marks : Command → List Marks → List Marks
add_marks (new_line address indent) marks = marks ++ (none ∷ [])
add_marks (marked s) marks = modify (pred (length marks)) (λ m. some s) marks
add_marks (new_token t) marks = marks
add_marks end marks = marks

-- by the commands of the bytes that are left; no question is asked
unfoldable pub marks_from_by : TapeForm → ℕ → List ℕ → List Marks → List Marks
marks_from_by form zero rest marks = marks
marks_from_by form (suc fuel) rest marks =
    let c : Command = command_by form rest in
    let more : List Marks = marks_from_by form fuel (drop (command_size_by form rest) rest) (add_marks c marks) in
    when is_end c then marks else more

unfoldable pub marks_in_by : TapeForm → List ℕ → List Marks
marks_in_by form tape = marks_from_by form (length tape) (drop (header form) tape) []

abbrev pub marks_from : ℕ → List ℕ → List Marks → List Marks
marks_from = marks_from_by old

-- the 03s of an accepted tape, one for each line of its listing, none where there is none
abbrev pub marks_in : List ℕ → List Marks
marks_in = marks_in_by old
