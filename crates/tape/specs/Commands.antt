-- What the code's commands mean, and what stands at an offset of a tape: document 01's questions 3 and 4. Assumes nothing.
use Rattle.std.specs.Prelude.{ℕ, ◌+◌, Bool, true, false, List, [], ◌∷◌, take, drop, Result}
use Rattle.std.proofs.Math.Option.{none, some}
use Rattle.reference.specs.Listing.{token}
use Rattle.reference.specs.Tape as Tape
use Rattle.reference.specs.Tape.{TapeForm, old, offsets, width}
use Rattle.reference.specs.Questions.{is_command_by, ends_inside_by, Answer, Passed, ask}
use Rattle.tape.specs.declared.commands.Command.{Command}
use Rattle.tape.specs.declared.commands.Command.TheVariants.{Addressed, Plain, Marked, Token, End}
use Rattle.answers.specs.declared.Refusal.{Refusal}
use Rattle.answers.specs.Refusals.{answered}

-- the form that code is told by one bit
abbrev pub form_of : Bool → TapeForm
form_of false = old
form_of true = offsets

-- the command at an offset of a tape; a token's text is a part of the tape
abbrev pub command_in : List ℕ → ℕ → Command → Tape.Command
command_in tape at (Addressed address indent) = Tape.new_line (some address) indent
command_in tape at (Plain indent) = Tape.new_line none indent
command_in tape at (Marked low high) = Tape.marked (record { lowest = low; highest = high })
command_in tape at (Token kind count) = Tape.new_token (token kind (take count (drop (at + 3) tape)))
command_in tape at End = Tape.end

abbrev pub size_of_by : TapeForm → Command → ℕ
size_of_by form (Addressed address indent) = 2 + width form
size_of_by form (Plain indent) = 2
size_of_by form (Marked low high) = 1 + width form + width form
size_of_by form (Token kind count) = 3 + count
size_of_by form End = 1

abbrev pub size_of : Command → ℕ
size_of = size_of_by old

-- the bytes that questions 5 to 8 look at, the same in both forms
abbrev pub looked_at : Command → ℕ
looked_at (Addressed address indent) = 0
looked_at (Plain indent) = 0
looked_at (Marked low high) = 0
looked_at (Token kind count) = 3 + count
looked_at End = 1

abbrev pub ends : Command → Bool
ends (Addressed address indent) = false
ends (Plain indent) = false
ends (Marked low high) = false
ends (Token kind count) = false
ends End = true

-- a command and its size
abbrev pub Sized : Type 0
Sized = Tape.Command × ℕ

abbrev pub found_in_by : TapeForm → List ℕ → ℕ → Result Command Refusal → Answer Sized
found_in_by form tape at = answered (λ c. (command_in tape at c, size_of_by form c))

abbrev pub found_in : List ℕ → ℕ → Result Command Refusal → Answer Sized
found_in = found_in_by old

-- the questions 3 and 4, and the command where both are answered "yes"
unfoldable pub standing_by : TapeForm → List ℕ → ℕ → Answer Sized
standing_by form tape at =
    ask (λ number. at)
    ((3, is_command_by form (drop at tape)) ∷ (4, ends_inside_by form (drop at tape)) ∷ [])
    (Passed (Tape.command_by form (drop at tape), Tape.command_size_by form (drop at tape)))

abbrev pub standing : List ℕ → ℕ → Answer Sized
standing = standing_by old
