-- What the filter program writes. Assumes nothing.
use Rattle.std.specs.Prelude.{ℕ, ◌≡◌, false, List, [], ◌∷◌, ◌++◌, length, take, drop}
use Rattle.reference.specs.Text.{Text, bytes}
use Rattle.reference.specs.Rules.{Rules}
use Rattle.reference.specs.Questions.{WORK, OUTPUT, Refused, Passed}
use Rattle.reference.specs.Reply.{Reply, reply}
use Rattle.printing.specs.Decimals.{decimal}

-- "`refused`, number, `at`, place (decimal, single spaces, newline)"
unfoldable pub refusal : ℕ → ℕ → Text
refusal number place = bytes "refused " ++ decimal number ++ bytes " at " ++ decimal place ++ (10 ∷ [])

-- "writes the new tape, or `refused`, .."
unfoldable pub shown : Reply → Text
shown (Refused number place) = refusal number place
shown (Passed c) = c.tape

-- the settings: the convention; "The filter program keeps its input form, with .. every later setting off"
abbrev pub settings : ℕ → Rules
settings convention = record { convention = convention; settle = false; edition = 0; parts = false; profile = false }

-- the longest tape that is taken
unfoldable pub LONGEST : ℕ
LONGEST = 65536

-- "reads from standard input a convention byte and the tape"; "Empty input prints `refused 1 at 0`"; "of a longer tape the first 65,536
-- bytes are the tape"
unfoldable pub response : List ℕ → Text
response [] = refusal 1 0
response (convention ∷ tape) = shown (reply (settings convention) (take LONGEST tape) WORK WORK OUTPUT)

-- the text stands at the front of the output, and r is its length; all else is as it was
pub record Shows (text out after : List ℕ) (r : ℕ) : Type 0 where
  pub holds : after ≡ text ++ drop (length text) out
  pub ends : r ≡ length text
