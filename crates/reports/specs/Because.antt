-- Of a refusal by a question with several reasons (3, 5, 6 and 10): where the reading of the tape stops, which part of the question's test
-- is not met there, and the words for it; and of 14 which test of the profile fails. That the words of Why.antt are these is a theorem
-- (proofs/Stopping.antt). Assumes nothing.
use Rattle.std.specs.Prelude.{◌≡◌, ℕ, ◌+◌, ◌<◌, ◌≤◌, ◌||◌, Bool, false, List, eqb, length, drop}
use Rattle.reference.specs.Text.{Text, bytes}
use Rattle.reference.specs.Listing.{Token, Number, Listing}
use Rattle.reference.specs.Spans.{Span}
use Rattle.reference.specs.Tape.{Command, new_line, marked, new_token}
use Rattle.reference.specs.Questions.{Totals, Advance, no_commands, is_command, is_end, read_command, read, Refused, Passed}
use Rattle.std.proofs.Math.Option.{Option, some}
use Rattle.reference.specs.Straight.{breaks}
use Rattle.formula.specs.Breaches.{Told}
use Rattle.formula.specs.declared.breaches.Breach.{Breach}
use Rattle.reports.specs.Profile.{breach_words}
use Rattle.tape.specs.Commands.{Sized, standing}

-- the reading of a tape comes to an offset, with the totals of the commands before it, which no question refuses
pub data Reaches (tape : List ℕ) : ℕ → Totals → Type 0 where
  first : Reaches tape 0 no_commands
  next : {at : ℕ} {t : Totals} (a : Advance) → Reaches tape at t → read_command tape at t ≡ Passed a → is_end a.command ≡ false
      → Reaches tape a.next a.totals

-- 3: there is no command
pub data NoCommand (tape : List ℕ) (at : ℕ) : Text → Type 0 where
  ends : length tape ≤ at → NoCommand tape at (bytes "the tape ends here, and no end (FF) was read")
  unknown : at < length tape → is_command (drop at tape) ≡ false → NoCommand tape at (bytes "the byte at this offset begins no command")

-- 5, 6 and 10: what a command does not meet, the totals before it being t
pub data Unmet (t : Totals) : ℕ → Command → Text → Type 0 where
  token_apart : {s : Token} → t.lines ≡ 0 → Unmet t 5 (new_token s) (bytes "the token at this offset stands before any line")
  marks_crossed : {s : Span} → s.highest < s.lowest
      → Unmet t 5 (marked s) (bytes "the marks at this offset have their lowest above their highest")
  marks_apart : {s : Span} → s.lowest ≤ s.highest → t.fresh ≡ false
      → Unmet t 5 (marked s) (bytes "the marks at this offset do not follow the command of a line")
  empty_text : {s : Token} → length s.text ≡ 0 → Unmet t 6 (new_token s) (bytes "the token at this offset has a text with no byte")
  long_number : {s : Token} → s.kind ≡ Number → 24 < length s.text
      → Unmet t 6 (new_token s) (bytes "the Number at this offset has more than 24 bytes")
  deep_line : {address : Option ℕ} {indent : ℕ} → 63 < indent
      → Unmet t 6 (new_line address indent) (bytes "the line at this offset has an indent above 63")
  many_tokens : {s : Token} → 1024 < t.tokens + 1
      → Unmet t 10 (new_token s) (bytes "with the token at this offset there are more than 1,024 tokens")
  many_lines : {address : Option ℕ} {indent : ℕ} → 256 < t.lines + 1
      → Unmet t 10 (new_line address indent) (bytes "with the line at this offset there are more than 256 lines")

pub data Because (tape : List ℕ) (at : ℕ) (t : Totals) : ℕ → Text → Type 0 where
  no_command : {words : Text} → NoCommand tape at words → Because tape at t 3 words
  unmet : {number : ℕ} {words : Text} (c : Sized) → standing tape at ≡ Passed c → Unmet t number c.0 words → Because tape at t number words

-- The reading stops at the place, since the question of this number is the first answered "no" there; and why, in these words.
pub record Stops (tape : List ℕ) (number place : ℕ) (words : Text) : Type 0 where
  pub totals : Totals
  pub reached : Reaches tape place totals
  pub asked : read_command tape place totals ≡ Refused number place
  pub because : Because tape place totals number words

-- 14: the words are those of what is told of the line by which `breaks` refuses: of its tests the first that fails
abbrev pub OfProfile : List ℕ → ℕ → ℕ → Text → Type 0
OfProfile tape number place words =
    (lines : Listing) → number ≡ 14 → read tape ≡ Passed lines → breaks lines ≡ some place
    → (b : Breach) × Told lines place b × (words ≡ breach_words b)

-- the questions with several reasons that a tape is asked
abbrev pub has_several : ℕ → Bool
has_several number = eqb number 3 || eqb number 5 || eqb number 6 || eqb number 10
