-- What the code's answers to the questions mean, and what an accepted tape is. Assumes nothing.
use Rattle.std.specs.Prelude.{ℕ, ◌+◌, ◌≤◌, ◌<◌, ◌≡◌, Bool, true, false, List, [], ◌∷◌, length, Result, Ok, Err, Option, Some, None}
use Rattle.reference.specs.Control.{when◌then◌else◌}
use Rattle.reference.specs.Listing.{Listing}
use Rattle.reference.specs.Tape as Tape
use Rattle.reference.specs.Tape.{TapeForm}
use Rattle.reference.specs.Claim.{token_count, text}
use Rattle.reference.specs.Questions as Q
use Rattle.reference.specs.Questions.{has_line, is_within, is_few, is_short, is_printable, is_over}
use Rattle.reference.specs.Questions.{place_at, Answer, Passed, ask, Advance, is_end, read_command_by, read}
use Rattle.tape.specs.Commands.{command_in, found_in_by, standing_by}
use Rattle.tape.specs.declared.commands.Command.{Command}
use Rattle.tape.specs.declared.commands.Command.TheVariants.{Addressed, Plain, Marked, Token, End}
use Rattle.tape.specs.declared.questions.Totals.{Totals}
use Rattle.tape.specs.declared.questions.Advance as Code
use Rattle.answers.specs.declared.Refusal.{Refusal}
use Rattle.answers.specs.Refusals.{answered}

-- the number of the first question that is answered "no", or 0
unfoldable pub first_no : List (ℕ × Bool) → ℕ
first_no [] = 0
first_no (q ∷ more) = let r = first_no more in when q.1 then r else q.0

abbrev pub totals_of : Totals → Q.Totals
totals_of t = record { lines = t.lines; tokens = t.tokens; text = t.text; fresh = t.fresh }

-- lines, tokens and bytes of text
pub record Sizes : Type 0 where
  pub lines : ℕ
  pub tokens : ℕ
  pub text : ℕ

-- those that were read: whether the command just before is a line's is asked of a command, not of a listing
abbrev pub sizes_of : Totals → Sizes
sizes_of t = record { lines = t.lines; tokens = t.tokens; text = t.text }

-- those of a listing
abbrev pub sizes_in : Listing → Sizes
sizes_in lines = record { lines = length lines; tokens = token_count lines; text = text lines }

-- the questions after 4 of a command that stands at the head of `rest`
abbrev pub questions : List ℕ → Q.Totals → Tape.Command → List (ℕ × Bool)
questions rest t c =
    (5, has_line t c) ∷ (6, is_within c) ∷ (10, is_few t c) ∷ (11, is_short t c) ∷ (7, is_printable c) ∷ (8, is_over rest c) ∷ []

-- the first of them that is answered "no", and its place
abbrev pub asking : List ℕ → ℕ → Q.Totals → Tape.Command → Answer (Unit {0})
asking rest at t c = ask (place_at at c) (questions rest t c) (Passed tt)

-- a refusal, or none
abbrev pub said : Result (Unit {0}) Refusal → Answer (Unit {0})
said = answered (λ u. u)

-- the totals with one command more, as numbers
abbrev pub counted : Command → Q.Totals → Q.Totals
counted (Addressed address indent) t = record { lines = t.lines + 1; tokens = t.tokens; text = t.text; fresh = true }
counted (Plain indent) t = record { lines = t.lines + 1; tokens = t.tokens; text = t.text; fresh = true }
counted (Marked low high) t = record { lines = t.lines; tokens = t.tokens; text = t.text; fresh = false }
counted (Token kind count) t = record { lines = t.lines; tokens = t.tokens + 1; text = t.text + count; fresh = false }
counted End t = t

-- they stay within the limits
abbrev pub Counts : Command → Totals → Type 0
Counts (Addressed address indent) t = t.lines < 256
Counts (Plain indent) t = t.lines < 256
Counts (Marked low high) t = Unit {0}
Counts (Token kind count) t = (t.tokens < 1024) × (t.text + count ≤ 24576)
Counts End t = Unit {0}

-- a tape that no question refuses
pub record AcceptedTape (tape : List ℕ) : Type 0 where
  pub listing : Listing
  pub reads : read tape ≡ Passed listing

-- the answer at an offset of a tape
abbrev pub advance_of : List ℕ → ℕ → Code.Advance → Advance
advance_of tape at a = record { command = command_in tape at a.command; next = a.next; totals = totals_of a.totals }

abbrev pub stepped : List ℕ → ℕ → Result Code.Advance Refusal → Answer Advance
stepped tape at = answered (advance_of tape at)

-- its command, where there is one, stands at the offset
abbrev pub StandsIn : TapeForm → List ℕ → ℕ → Result Code.Advance Refusal → Type 0
StandsIn form tape at (Ok a) = found_in_by form tape at (Ok a.command) ≡ standing_by form tape at
StandsIn form tape at (Err r) = Unit {0}

-- a command passed the questions, and whether it is the end
pub record ReadOne (form : TapeForm) (tape : List ℕ) (at : ℕ) (t : Q.Totals) (ended : Bool) (a : Advance) : Type 0 where
  pub passes : Passed a ≡ read_command_by form tape at t
  pub ends : is_end a.command ≡ ended

-- the answer at an offset of a tape, none at the end
abbrev pub SteppedOn : TapeForm → List ℕ → ℕ → Q.Totals → Result (Option Code.Advance) Refusal → Type 0
SteppedOn form tape at t (Ok (Some a)) = ReadOne form tape at t false (advance_of tape at a)
SteppedOn form tape at t (Ok None) = (a : Advance) × ReadOne form tape at t true a
SteppedOn form tape at t (Err r) = stepped tape at (Err r) ≡ read_command_by form tape at t

abbrev pub checked : Result Totals Refusal → Answer Sizes
checked = answered sizes_of
