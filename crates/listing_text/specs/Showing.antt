-- A tape as text: command after command up to the end, or to the first that a question refuses. The limits of a whole listing (10, 11) are
-- not asked, since cleaning may lengthen a text. Assumes nothing.
use Rattle.std.specs.Prelude.{ℕ, zero, suc, ◌≡◌, Bool, false, List, [], ◌++◌, eqb, leb, length, take}
use Rattle.reference.specs.Control.{when◌then◌else◌}
use Rattle.reference.specs.Text.{Text}
use Rattle.reference.specs.Questions.{Totals, Answer, Refused, Passed, Advance, read_command, is_end}
use Rattle.std.specs.Prelude.{Option, Some, None}
use Rattle.answers.specs.declared.Refusal.{Refusal}
use Rattle.answers.specs.Refusals.{number_of}
use Rattle.listing_text.specs.Room.{laid}
use Rattle.listing_text.specs.Forms.{line_end, command_text}
use Rattle.listing_text.specs.declared.showing.Shown as Code

-- the text, and the number and place of the question that ended it; number 0: none
pub record Shown : Type 0 where
  pub text : Text
  pub number : ℕ
  pub place : ℕ

-- with a text in front
abbrev pub in_front : Text → Shown → Shown
in_front t s = record { text = t ++ s.text; number = s.number; place = s.place }

-- what is asked of a command: whether a line has begun before it, and whether that is the command just before
unfoldable pub begun : ℕ → Bool → Totals
begun at fresh = record { lines = when eqb at 0 then 0 else 1; tokens = 0; text = 0; fresh = fresh }

-- what an answer at an offset gives; `rest` is the text from an offset on
unfoldable pub shown_at : Bool → List ℕ → ℕ → (ℕ → Bool → Shown) → Answer Advance → Shown
shown_at exact tape at rest (Refused number place) = record { text = line_end at; number = number; place = place }
shown_at exact tape at rest (Passed a) =
    let more = rest a.next a.totals.fresh in
    in_front (command_text exact tape at a.next a.command)
    (when is_end a.command then record { text = []; number = 0; place = 0 } else more)

-- the commands from an offset on. `fuel` bounds them: a command has a byte or more
unfoldable pub shown_from : Bool → ℕ → List ℕ → ℕ → Bool → Shown
shown_from exact zero tape at fresh = record { text = []; number = 3; place = at }
shown_from exact (suc fuel) tape at fresh = shown_at exact tape at (shown_from exact fuel tape) (read_command tape at (begun at fresh))

unfoldable pub shown : Bool → List ℕ → Shown
shown exact tape = shown_from exact (length tape) tape 0 false

-- ---- what the code answers of it

-- the number and place of a refusal, if there is one
abbrev pub number_told : Option Refusal → ℕ
number_told (Some r) = number_of r.reason
number_told None = 0

abbrev pub place_told : Option Refusal → ℕ
place_told (Some r) = r.place
place_told None = 0

-- the slice holds as much of the text as it has room for; the answer says how much that is, whether it is all, and the refusal
pub record Shows (s : Shown) (out out' : List ℕ) (r : Code.Shown) : Type 0 where
  pub bytes_are : out' ≡ laid out s.text
  pub length_is : r.length ≡ length (take (length out) s.text)
  pub whole_is : r.whole ≡ leb (length s.text) (length out)
  pub number_is : number_told r.refusal ≡ s.number
  pub place_is : place_told r.refusal ≡ s.place
