-- The records of lines: the line that one means, what a command makes of them, and what the tables of words have of them. Assumes nothing.
use Rattle.std.specs.Prelude as std
use Rattle.std.specs.Prelude.{ℕ, ◌+◌, ◌-◌, ◌*◌, ◌≤◌, ◌<◌, ◌≡◌, true, false, List, map, min, max, eqb, length, take, drop, get_or, set}
use Rattle.std.specs.Prelude.{Result, Ok, Err}
use Rattle.std.specs.Bool.{then_some}
use Rattle.std.proofs.Math.Option.{Option, none}
use Rattle.reference.specs.Options.{option_of}
use Rattle.reference.specs.Text.{Text}
use Rattle.reference.specs.Listing as L
use Rattle.reference.specs.Listing.{token, Line, Listing}
use Rattle.reference.specs.Spans.{Marks, span_of}
use Rattle.reference.specs.Marks.{adds}
use Rattle.reference.specs.Tape.{old}
use Rattle.reference.specs.Questions.{Passed, Advance, read_command, read, marks_in}
use Rattle.joining.specs.Carried.{TOP, Pair, marks_of, Kept, pair_at}
use Rattle.lines.specs.Words.{word, tokens_of, Holds, Recoded}
use Rattle.lines.specs.Lines.{first_of, count_of, indent_of, addressed_of, origin_of, line_word}
use Rattle.tape.specs.Commands.{command_in, found_in, standing}
use Rattle.tape.specs.Questions.{totals_of, stepped, ReadOne}
use Rattle.tables.specs.Memo.{TokenAt, Good}
use Rattle.tables.specs.Tables.{Loaded}
use Rattle.tape.specs.declared.commands.Command.{Command}
use Rattle.tape.specs.declared.commands.Command.TheVariants.{Addressed, Plain, Marked, Token, End}
use Rattle.tape.specs.declared.questions.Totals.{Totals}
use Rattle.tape.specs.declared.reader.TapeReader.{TapeReader}
use Rattle.tables.specs.declared.records.LineRecord.{LineRecord}
use Rattle.tables.specs.declared.loading.LoadState.{LoadState}
use Rattle.answers.specs.declared.Refusal.{Refusal}

abbrev pub blank : LineRecord
blank = record { address = std.None; indent = 0; first = 0; count = 0; marks = record { low = 0; high = 0 } }

-- ---- a record and the line that it means

abbrev pub address_of : LineRecord → Option ℕ
address_of r = option_of r.address

-- the two numbers that its marks are
abbrev pub pair_of : LineRecord → Pair
pair_of r = (r.marks.low, r.marks.high)

-- the token words of its line
abbrev pub part_at : List ℕ → LineRecord → List ℕ
part_at tokens r = take r.count (drop r.first tokens)

abbrev pub line_of : Text → Text → List ℕ → LineRecord → Line
line_of tape area tokens r = record { address = address_of r; indent = r.indent; tokens = tokens_of tape area (part_at tokens r) }

-- the line is a part of the tokens, each of its words points into its text, and its indent is a byte
pub record Sound (tape area : Text) (tokens : List ℕ) (r : LineRecord) : Type 0 where
  pub inside : r.first + r.count ≤ length tokens
  pub holds : Holds tape area (part_at tokens r)
  pub low : r.indent < 256

-- the record of a line word; `addresses`, `lows` and `highs` have the addresses and the marks by the number of the input line
abbrev pub record_of : List ℕ → List ℕ → List ℕ → ℕ → LineRecord
record_of addresses lows highs l =
    record {
      address = then_some (eqb (addressed_of l) 1) (get_or addresses (origin_of l) 0);
      indent = indent_of l;
      first = first_of l;
      count = count_of l;
      marks = record { low = get_or lows (origin_of l) 0; high = get_or highs (origin_of l) 0 };
    }

abbrev pub records_of : List ℕ → List ℕ → List ℕ → List ℕ → List LineRecord
records_of addresses lows highs lines = map (record_of addresses lows highs) lines

-- ---- a record and the tables of words

-- 1 for a line with an address, else 0
abbrev pub flag_of : std.Option ℕ → ℕ
flag_of (std.Some address) = 1
flag_of std.None = 0

-- the word of the k-th line
abbrev pub word_of : ℕ → LineRecord → ℕ
word_of k r = line_word r.first r.count r.indent (flag_of r.address) k

-- the numbers fit a line word
pub record RecordFits (r : LineRecord) : Type 0 where
  pub first : r.first < 65536
  pub count : r.count < 2048
  pub indent : r.indent < 64

-- the k-th place of the tables has the record's word, and its address if it has one
pub record Held (r : LineRecord) (k : ℕ) (lines addresses : List ℕ) : Type 0 where
  pub word : get_or lines k 0 ≡ word_of k r
  pub address : (a : ℕ) → r.address ≡ std.Some a → get_or addresses k 0 ≡ a

-- so have the first n places, in tables of the usual length
pub record Holding (records : List LineRecord) (n : ℕ) (lines addresses : List ℕ) : Type 0 where
  pub long_lines : 256 ≤ length lines
  pub long_addresses : 256 ≤ length addresses
  pub at : (k : ℕ) → k < n → Held (get_or records k blank) k lines addresses

-- and the k-th places of the two tables have its marks
pub record Marking (records : List LineRecord) (n : ℕ) (lows highs : List ℕ) : Type 0 where
  pub long_lows : 256 ≤ length lows
  pub long_highs : 256 ≤ length highs
  pub at : (k : ℕ) → k < n → pair_at lows highs k ≡ pair_of (get_or records k blank)

-- the first n numbers fit
abbrev pub Fitting : List LineRecord → ℕ → Type 0
Fitting records n = (k : ℕ) → k < n → RecordFits (get_or records k blank)

-- the first n records have the marks of the listing's lines, with the 03s that were read in
pub record MarksRecorded (listing : Listing) (marks : List Marks) (records : List LineRecord) (n : ℕ) : Type 0 where
  pub at : (k : ℕ) → k < n → marks_of (pair_of (get_or records k blank)) ≡ span_of (adds (get_or listing k L.blank) (get_or marks k none))
  pub kept : (k : ℕ) → k < n → Kept (pair_of (get_or records k blank))

-- The records are the listing of the tape: tables that hold them are what loading it leaves.
pub record Recorded (tape tokens : List ℕ) (records : List LineRecord) (r : Totals) : Type 0 where
  pub loaded : (lines addresses : List ℕ) → Holding records r.lines lines addresses → Loaded tape tokens lines addresses r
  pub fitting : Fitting records r.lines
  pub few : r.lines ≤ 256
  pub marks : (listing : Listing) → read tape ≡ Passed listing → MarksRecorded listing (marks_in tape) records r.lines

-- the same of a tape that may be refused: what then stands in the tables is not said
abbrev pub RecordedIf : List ℕ → List ℕ → List LineRecord → Result Totals Refusal → Type 0
RecordedIf tape tokens records (Ok r) = Recorded tape tokens records r
RecordedIf tape tokens records (Err r) = Unit {0}

-- ---- one command

-- one token more
abbrev pub longer_by_one : LineRecord → LineRecord
longer_by_one line = record line { count = line.count + 1 }

-- the record that the command at hand is about, `line` being the record of the last line
abbrev pub line_after : Command → Totals → LineRecord → LineRecord
line_after (Addressed address indent) t line =
    record { address = std.Some address; indent = indent; first = t.tokens; count = 0; marks = record { low = address; high = address } }
line_after (Plain indent) t line =
    record { address = std.None; indent = indent; first = t.tokens; count = 0; marks = record { low = TOP; high = 0 } }
line_after (Marked low high) t line = record line { marks = record { low = min line.marks.low low; high = max line.marks.high high } }
line_after (Token kind count) t line = longer_by_one line
line_after End t line = line

-- its place
abbrev pub place_after : Command → Totals → ℕ
place_after (Addressed address indent) t = t.lines
place_after (Plain indent) t = t.lines
place_after (Marked low high) t = t.lines - 1
place_after (Token kind count) t = t.lines - 1
place_after End t = t.lines - 1

-- the records with the command
abbrev pub records_after : Command → Totals → List LineRecord → List LineRecord
records_after c t records = set records (place_after c t) (line_after c t (get_or records (t.lines - 1) blank))

-- the command can be laid in the records
abbrev pub Lays : Command → Totals → List LineRecord → Type 0
Lays (Addressed address indent) t records = t.lines < length records
Lays (Plain indent) t records = t.lines < length records
Lays (Marked low high) t records = (0 < t.lines) × (t.lines ≤ length records)
Lays (Token kind count) t records =
    (0 < t.lines) × (t.lines ≤ length records) × ((get_or records (t.lines - 1) blank).count < 2047)
Lays End t records = Unit {0}

-- a token whose text has `count` bytes stands at the offset, passes the questions of a token alone, and its numbers fit its word
pub record TokenPassed (tape : List ℕ) (at kind count : ℕ) : Type 0 where
  pub stands : TokenAt tape at (token kind (take count (drop (at + 3) tape)))
  pub good : Good (token kind (take count (drop (at + 3) tape)))
  pub long : length (take count (drop (at + 3) tape)) ≡ count
  pub near : at + 3 + count < 65536
  pub early : at + 8 < 65536

-- it does so, and there is room for its word
abbrev pub TakesToken : List ℕ → ℕ → Command → Totals → List ℕ → Type 0
TakesToken tape at (Addressed address indent) t tokens = Unit {0}
TakesToken tape at (Plain indent) t tokens = Unit {0}
TakesToken tape at (Marked low high) t tokens = Unit {0}
TakesToken tape at (Token kind count) t tokens = TokenPassed tape at kind count × (t.tokens < length tokens)
TakesToken tape at End t tokens = Unit {0}

-- the tokens with the command: the word of a token, coded or not, stands behind those before it
abbrev pub Worded : List ℕ → ℕ → Command → Totals → List ℕ → List ℕ → Type 0
Worded tape at (Addressed address indent) t tokens tokens' = tokens' ≡ tokens
Worded tape at (Plain indent) t tokens tokens' = tokens' ≡ tokens
Worded tape at (Marked low high) t tokens tokens' = tokens' ≡ tokens
Worded tape at (Token kind count) t tokens tokens' =
    (w : ℕ) × Recoded tape (word kind 0 (at + 3) count) w × (tokens' ≡ set tokens t.tokens w)
Worded tape at End t tokens tokens' = tokens' ≡ tokens

-- ---- the next command

abbrev pub state_of : TapeReader → Totals → LoadState
state_of reader t = record { at = reader.at; totals = t }

-- the totals are within the limits, the offset is where they allow it, and there is room
pub record Loadable (tape : List ℕ) (s : LoadState) (tokens : List ℕ) (records : List LineRecord) : Type 0 where
  pub bytes : (k : ℕ) → get_or tape k 0 < 256
  pub near : s.at ≤ s.totals.text + 3 * s.totals.tokens + 27 * s.totals.lines
  pub few_lines : s.totals.lines ≤ 256
  pub few_tokens : s.totals.tokens ≤ 1024
  pub short_text : s.totals.text ≤ 24576
  pub begun : s.totals.fresh ≡ true → 0 < s.totals.lines
  pub short_line : 0 < s.totals.lines → (get_or records (s.totals.lines - 1) blank).count ≤ s.totals.tokens
  pub long_tokens : 1024 ≤ length tokens
  pub long_records : 256 ≤ length records

-- the answer of the questions to the command at the offset, where it leads to the next state
abbrev pub advance_to : List ℕ → ℕ → Command → LoadState → Advance
advance_to tape at c s = record { command = command_in tape at c; next = s.at; totals = totals_of s.totals }

-- the command at the offset passed the questions and was taken
pub record StepLoads (tape : List ℕ) (s : LoadState) (tokens : List ℕ) (records : List LineRecord) (tokens' : List ℕ)
    (records' : List LineRecord) (s' : LoadState) : Type 0 where
  pub command : Command
  pub stands : found_in tape s.at (Ok command) ≡ standing tape s.at
  pub passed : ReadOne old tape s.at (totals_of s.totals) false (advance_to tape s.at command s')
  pub worded : Worded tape s.at command s.totals tokens tokens'
  pub records_are : records' ≡ records_after command s.totals records

-- nothing was taken
pub record Unloaded (tokens : List ℕ) (records : List LineRecord) (tokens' : List ℕ) (records' : List LineRecord) : Type 0 where
  pub tokens_are : tokens' ≡ tokens
  pub records_are : records' ≡ records

-- FF stands at the offset, and passed the questions
pub record LoadEnds (tape : List ℕ) (s : LoadState) (tokens : List ℕ) (records : List LineRecord) (tokens' : List ℕ)
    (records' : List LineRecord) : Type 0 where
  pub last : Advance
  pub passed : ReadOne old tape s.at (totals_of s.totals) true last
  pub same : Unloaded tokens records tokens' records'

abbrev pub LoadsKnown : List ℕ → LoadState → List ℕ → List LineRecord → List ℕ → List LineRecord → std.Option LoadState → Type 0
LoadsKnown tape s tokens records tokens' records' (std.Some s') = StepLoads tape s tokens records tokens' records' s'
LoadsKnown tape s tokens records tokens' records' std.None = Unloaded tokens records tokens' records'

-- a refusal is that of the command at the offset
abbrev pub Loads : List ℕ → LoadState → List ℕ → List LineRecord → List ℕ → List LineRecord → Result (std.Option LoadState) Refusal → Type 0
Loads tape s tokens records tokens' records' (Ok (std.Some s')) = StepLoads tape s tokens records tokens' records' s'
Loads tape s tokens records tokens' records' (Ok std.None) = LoadEnds tape s tokens records tokens' records'
Loads tape s tokens records tokens' records' (Err r) = stepped tape s.at (Err r) ≡ read_command tape s.at (totals_of s.totals)
