-- The words for one reason: which of those that a question's number stands for it is, by what stands in the tape at the place. Assumes
-- nothing.
use Rattle.std.specs.Prelude.{ℕ, List, eqb, ltb, length, if◌then◌else◌}
use Rattle.reference.specs.Text.{Text, bytes}
use Rattle.reference.specs.Tape.{Command, marked, new_token}
use Rattle.reference.specs.Questions.{Answer, Refused, Passed}
use Rattle.tape.specs.Commands.{Sized, standing}
use Rattle.reports.specs.Reports.{meaning}
use Rattle.reports.specs.Profile.{broken}

-- 3: the tape has no more bytes, or the byte there begins none
unfoldable pub no_command : List ℕ → ℕ → Text
no_command tape place =
    if ltb place (length tape) then bytes "the byte at this offset begins no command"
    else bytes "the tape ends here, and no end (FF) was read"

-- 5: a token before any line; marks that follow no line, or have their lowest above their highest
unfoldable pub misplaced : Command → Text
misplaced (marked s) =
    if ltb s.highest s.lowest then bytes "the marks at this offset have their lowest above their highest"
    else bytes "the marks at this offset do not follow the command of a line"
misplaced c = bytes "the token at this offset stands before any line"

-- 6: an indent above 63; a text with no byte; a number of more than 24 bytes. A token's kind and length take three bytes.
unfoldable pub unbounded : Command → ℕ → Text
unbounded (new_token t) size =
    if eqb size 3 then bytes "the token at this offset has a text with no byte"
    else bytes "the Number at this offset has more than 24 bytes"
unbounded c size = bytes "the line at this offset has an indent above 63"

-- 10: more than 256 lines; more than 1,024 tokens
unfoldable pub too_many : Command → Text
too_many (new_token t) = bytes "with the token at this offset there are more than 1,024 tokens"
too_many c = bytes "with the line at this offset there are more than 256 lines"

-- by the command that stands at the place, and its size
unfoldable pub words_by : ℕ → Sized → Text
words_by number c =
    if eqb number 5 then misplaced c.0
    else if eqb number 6 then unbounded c.0 c.1
    else if eqb number 10 then too_many c.0
    else meaning number

abbrev pub words_at : ℕ → Answer Sized → Text
words_at number (Passed c) = words_by number c
words_at number (Refused n place) = meaning number

-- of a refusal by a number at a place of a tape
unfoldable pub words : List ℕ → ℕ → ℕ → Text
words tape number place =
    let by_command : Text = words_at number (standing tape place) in
    if eqb number 3 then no_command tape place else if eqb number 14 then broken tape place else by_command
