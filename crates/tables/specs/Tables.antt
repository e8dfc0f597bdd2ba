-- The tables of a listing whose texts are all in the tape: how a command is added, and what they mean at the end. Assumes nothing.
use Rattle.std.specs.Prelude.{ℕ, ◌+◌, ◌-◌, ◌≤◌, ◌<◌, ◌≡◌, List, length, take, get_or, set, Result, Ok, Err}
use Rattle.reference.specs.Text.{Text}
use Rattle.reference.specs.Listing.{Listing}
use Rattle.reference.specs.Spans.{Marks}
use Rattle.reference.specs.Marks.{own_marks}
use Rattle.reference.specs.Questions.{Passed, let_passed◌then◌, read, marks_in}
use Rattle.joining.specs.Carried.{pair_at, marks_by, Kept}
use Rattle.lines.specs.Words.{word, Holds}
use Rattle.lines.specs.Lines.{first_of, count_of, origin_of, line_word, with_part, listing_of, Listed}
use Rattle.tape.specs.Questions.{sizes_of, sizes_in}
use Rattle.tape.specs.declared.commands.Command.{Command}
use Rattle.tape.specs.declared.commands.Command.TheVariants.{Addressed, Plain, Marked, Token, End}
use Rattle.tape.specs.declared.questions.Totals.{Totals}
use Rattle.answers.specs.declared.Refusal.{Refusal}

-- ---- marks by the number of the input line

-- the marks of the lines that line words mean
abbrev pub marks_for : List ℕ → List ℕ → List ℕ → List Marks
marks_for = marks_by origin_of

-- ---- one command

-- the word of a line that begins behind the tokens so far
abbrev pub begun : ℕ → ℕ → Totals → ℕ
begun indent addressed t = line_word t.tokens 0 indent addressed t.lines

-- a line with one token more
abbrev pub longer : ℕ → ℕ
longer l = with_part l (first_of l) (count_of l + 1)

-- the last line with one token more
abbrev pub lengthened : List ℕ → Totals → List ℕ
lengthened lines t = set lines (t.lines - 1) (longer (get_or lines (t.lines - 1) 0))

-- the tables with the command at an offset, after those that the totals count

abbrev pub tokens_after : ℕ → Command → Totals → List ℕ → List ℕ
tokens_after at (Addressed address indent) t tokens = tokens
tokens_after at (Plain indent) t tokens = tokens
tokens_after at (Marked low high) t tokens = tokens
tokens_after at (Token kind count) t tokens = set tokens t.tokens (word kind 0 (at + 3) count)
tokens_after at End t tokens = tokens

abbrev pub lines_after : Command → Totals → List ℕ → List ℕ
lines_after (Addressed address indent) t lines = set lines t.lines (begun indent 1 t)
lines_after (Plain indent) t lines = set lines t.lines (begun indent 0 t)
lines_after (Marked low high) t lines = lines
lines_after (Token kind count) t lines = lengthened lines t
lines_after End t lines = lines

abbrev pub addresses_after : Command → Totals → List ℕ → List ℕ
addresses_after (Addressed address indent) t addresses = set addresses t.lines address
addresses_after (Plain indent) t addresses = addresses
addresses_after (Marked low high) t addresses = addresses
addresses_after (Token kind count) t addresses = addresses
addresses_after End t addresses = addresses

-- the numbers fit the words, and the last line can grow
abbrev pub Adds : ℕ → Command → Totals → List ℕ → Type 0
Adds at (Addressed address indent) t lines = (indent < 64) × (t.lines < 256)
Adds at (Plain indent) t lines = (indent < 64) × (t.lines < 256)
Adds at (Marked low high) t lines = (0 < t.lines) × (low ≤ high)
Adds at (Token kind count) t lines =
    (kind < 8) × (at + 3 + count < 65536) × (t.tokens < 1024) × (0 < t.lines) × (count_of (get_or lines (t.lines - 1) 0) < 2047)
Adds at End t lines = Unit {0}

-- the tables have room for every accepted tape, and the totals are within the limits
pub record Room (tokens lines addresses : List ℕ) (t : Totals) : Type 0 where
  pub for_tokens : 1024 ≤ length tokens
  pub for_lines : 256 ≤ length lines
  pub for_addresses : 256 ≤ length addresses
  pub few_tokens : t.tokens ≤ 1024
  pub few_lines : t.lines ≤ 256

-- what is in the tables after a command
pub record Added (at : ℕ) (c : Command) (t : Totals) (tokens lines addresses tokens' lines' addresses' : List ℕ) : Type 0 where
  pub tokens_are : tokens' ≡ tokens_after at c t tokens
  pub lines_are : lines' ≡ lines_after c t lines
  pub addresses_are : addresses' ≡ addresses_after c t addresses

-- ---- the whole tape

-- The first words of the tables are the listing of the tape, whatever the work area holds, and the answer has the listing's totals.
pub record Loaded (tape tokens lines addresses : List ℕ) (r : Totals) : Type 0 where
  pub listing : (area : Text) → read tape ≡ Passed (listing_of tape area (take r.tokens tokens) addresses (take r.lines lines))
  pub listed : (area : Text) → Listed tape area (take r.tokens tokens) (take r.lines lines)
  pub holds : (area : Text) → Holds tape area (take r.tokens tokens)
  pub totals : (let_passed (read tape) then λ l. Passed (sizes_in l)) ≡ Passed (sizes_of r)

-- The two tables have the marks of the lines, each line's by its number: its address and its 03, if it has them; kept so that they join by
-- minimum and maximum.
pub record LoadedMarks (tape lines lows highs : List ℕ) (r : Totals) : Type 0 where
  pub origins : (k : ℕ) → k < r.lines → origin_of (get_or lines k 0) ≡ k
  pub kept : (k : ℕ) → k < r.lines → Kept (pair_at lows highs k)
  pub means : (listing : Listing) → read tape ≡ Passed listing
      → marks_for lows highs (take r.lines lines) ≡ own_marks listing (marks_in tape)

-- the same of a tape that may be refused: what is then in the tables is not said
abbrev pub LoadedIf : List ℕ → List ℕ → List ℕ → List ℕ → List ℕ → List ℕ → Result Totals Refusal → Type 0
LoadedIf tape tokens lines addresses lows highs (Ok r) = Loaded tape tokens lines addresses r × LoadedMarks tape lines lows highs r
LoadedIf tape tokens lines addresses lows highs (Err r) = Unit {0}
