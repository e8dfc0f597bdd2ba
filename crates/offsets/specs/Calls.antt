-- What the code's values mean, for either direction: `based` says that the tape that is read is by offset. Assumes nothing.
use Rattle.std.specs.Prelude.{ℕ, ◌+◌, ◌-◌, ◌≤◌, ◌≡◌, Bool, true, false, List, length, Result}
use Rattle.std.proofs.Math.Option.{none, some}
use Rattle.reference.specs.Control.{let_some◌else◌then◌}
use Rattle.reference.specs.Listing.{Listing}
use Rattle.reference.specs.Tape as Tape
use Rattle.reference.specs.Tape.{TapeForm, old, offsets, header, write_command_by, write_by}
use Rattle.reference.specs.Questions as Q
use Rattle.reference.specs.Questions.{let_passed◌then◌, read_command_by, read_by, marks_in_by}
use Rattle.answers.specs.declared.Refusal.{Refusal}
use Rattle.answers.specs.Refusals.{answered}
use Rattle.text.specs.Cursor.{Puts}
use Rattle.text.specs.declared.cursor.Cursor.{Cursor}
use Rattle.tape.specs.Commands.{form_of}
use Rattle.offsets.specs.Offsets.{out_of_reach, wraps, move_lines, move_all_marks, first_with, begins_with_06}

-- ---- answers

-- a question of the code that has no value to give: 0 where it is answered "yes"
abbrev pub passing : Result (Unit {0}) Refusal → Q.Answer ℕ
passing = answered (λ u. 0)

-- ---- the two directions

abbrev pub other_form : Bool → TapeForm
other_form true = old
other_form false = offsets

-- 18: what is asked of an address, or of an offset
abbrev pub bad_for : Bool → ℕ → ℕ → Bool
bad_for true base = wraps base
bad_for false base = out_of_reach base

-- what it becomes
abbrev pub moved_by : Bool → ℕ → ℕ → ℕ
moved_by true base offset = base + offset
moved_by false base address = address - base

-- ---- one command

-- a command with its addresses moved
unfoldable pub move_command : (ℕ → ℕ) → Tape.Command → Tape.Command
move_command f (Tape.new_line address indent) = Tape.new_line (let_some address else none then λ a. some (f a)) indent
move_command f (Tape.marked s) = Tape.marked (record { lowest = f s.lowest; highest = f s.highest })
move_command f (Tape.new_token t) = Tape.new_token t
move_command f Tape.end = Tape.end

-- the bytes of a command in the other form
abbrev pub moved_bytes : Bool → ℕ → Tape.Command → List ℕ
moved_bytes based base c = write_command_by (other_form based) (move_command (moved_by based base) c)

-- ---- the whole tape

-- it is accepted
pub record Read (based : Bool) (tape : List ℕ) : Type 0 where
  pub lines : Listing
  pub reads : read_by (form_of based) tape ≡ Q.Passed lines

-- and 18 is answered "no"
pub record Ready (based : Bool) (base : ℕ) (tape : List ℕ) : Type 0 where
  pub read : Read based tape
  pub none_bad : first_with (form_of based) (bad_for based base) tape ≡ none

-- 18 alone, and after the tape's questions
unfoldable pub reach_answer : Bool → ℕ → List ℕ → Q.Answer ℕ
reach_answer based base tape =
    let_some (first_with (form_of based) (bad_for based base) tape) else Q.Passed 0 then λ place. Q.Refused 18 place

unfoldable pub ready_answer : Bool → ℕ → List ℕ → Q.Answer ℕ
ready_answer based base tape = let_passed (read_by (form_of based) tape) then λ lines. reach_answer based base tape

-- the front of a tape by offset passed
pub record Fronted (tape : List ℕ) : Type 0 where
  pub begins : begins_with_06 tape ≡ true
  pub long : header offsets ≤ length tape

-- what is written of an accepted tape: the commands of its listing and its marks in the other form, each address moved
abbrev pub Converts : Bool → ℕ → List ℕ → Cursor → Cursor → Type 0
Converts based base tape out after =
    (lines : Listing) → read_by (form_of based) tape ≡ Q.Passed lines
    → Puts out
    (write_by (other_form based) (move_lines (moved_by based base) lines)
    (move_all_marks (moved_by based base) (marks_in_by (form_of based) tape)))
    after
