-- What the code that goes down finds. Assumes nothing.
use Rattle.std.specs.Prelude.{ℕ, ◌≤◌, ◌≡◌, true, false, List, length}
use Rattle.std.proofs.Math.Option.{none}
use Rattle.reference.specs.Control.{not, ◌and◌, ◌or◌}
use Rattle.reference.specs.Lists.{is_some}
use Rattle.reference.specs.Text.{Text, bytes, starts_with, contains}
use Rattle.reference.specs.Numbers.{read_constant}
use Rattle.reference.specs.Listing.{is, Number}
use Rattle.reference.specs.Tape as Tape
use Rattle.text.specs.Cursor.{Fits}
use Rattle.text.specs.declared.cursor.Cursor.{Cursor}
use Rattle.tape.specs.Held.{command_with}
use Rattle.tape.specs.Questions.{AcceptedTape}
use Rattle.tape.specs.Walk.{ByteFits}
use Rattle.editions.specs.Conversion.{down_token, earns_13, of_command, first_place}

-- a Number without its minus that does not earn 13
abbrev pub Ready : Text → Type 0
Ready s = (((starts_with s (bytes "0b") or starts_with s (bytes "0B")) or contains s 39) and not (is_some (read_constant s))) ≡ false

-- a command gone down: others than tokens as they stand
abbrev pub down_command : Tape.Command → Tape.Command
down_command = command_with (λ a. a) (λ s. s) down_token

-- question 6 of a Number
abbrev pub Short : Tape.Command → Type 0
Short (Tape.new_line address indent) = Unit {0}
Short (Tape.marked s) = Unit {0}
Short (Tape.new_token t) = is Number t ≡ true → length t.text ≤ 24
Short Tape.end = Unit {0}

-- a command of an accepted tape that does not earn 13, and room for it
pub record Lowers (c : Tape.Command) (out : Cursor) : Type 0 where
  pub older : of_command earns_13 c ≡ false
  pub byte : ByteFits c
  pub short : Short c
  pub room : Fits out (length (Tape.write_command (down_command c)))

-- an accepted tape of which no command earns 13
pub record Lowerable (tape : List ℕ) : Type 0 where
  pub accepted : AcceptedTape tape
  pub nowhere : first_place (of_command earns_13) (length tape) tape 0 ≡ none
