-- The bytes of lines, and what writing a listing leaves. Assumes nothing.
use Rattle.std.specs.Prelude.{ℕ, ◌<◌, ◌≡◌, length, drop, get_or}
use mathlib.Core.List.{List, ◌++◌, map, flat_map}
use Rattle.reference.specs.Text.{Text}
use Rattle.reference.specs.Listing.{Token, Line}
use Rattle.reference.specs.Spans as Spans
use Rattle.reference.specs.Tape.{new_token, write_command, write_line}
use Rattle.joining.specs.Carried.{marks_of, pair_at}
use Rattle.text.specs.Cursor.{Fits}
use Rattle.lines.specs.Lines.{origin_of, line_in}
use Rattle.lines.specs.Marks.{highs_of, lows_of}
use Rattle.tables.specs.Records.{blank, pair_of, line_of, Sound}
use Rattle.text.specs.declared.cursor.Cursor.{Cursor}
use Rattle.lines.specs.declared.marks.Marks.{Marks}
use Rattle.lines.specs.declared.texts.Listing.{Listing}
use Rattle.tables.specs.declared.records.LineRecord.{LineRecord}

abbrev pub token_bytes : Token → List ℕ
token_bytes t = write_command (new_token t)

abbrev pub tokens_bytes : List Token → List ℕ
tokens_bytes ts = flat_map token_bytes ts

-- a line and its marks
abbrev pub MarkedLine : Type 0
MarkedLine = Line × Spans.Marks

abbrev pub whole_line : MarkedLine → List ℕ
whole_line p = write_line p.0 p.1

abbrev pub lines_bytes : List MarkedLine → List ℕ
lines_bytes ls = flat_map whole_line ls

abbrev pub marked_of : Text → Text → List ℕ → LineRecord → MarkedLine
marked_of tape area tokens r = (line_of tape area tokens r, marks_of (pair_of r))

-- the lines of records
abbrev pub recorded : Text → Text → List ℕ → List LineRecord → List MarkedLine
recorded tape area tokens records = map (marked_of tape area tokens) records

abbrev pub marked_in : Text → Text → List ℕ → List ℕ → List ℕ → List ℕ → ℕ → MarkedLine
marked_in tape area tokens addresses lows highs l = (line_in tape area tokens addresses l, marks_of (pair_at lows highs (origin_of l)))

-- the lines of line words
abbrev pub paged : Text → Text → List ℕ → List ℕ → List ℕ → List ℕ → List ℕ → List MarkedLine
paged tape area tokens addresses lows highs lines = map (marked_in tape area tokens addresses lows highs) lines

-- those of a listing in the tables
abbrev pub paged_in : Listing → List ℕ → List Marks → List MarkedLine
paged_in g addresses marks = paged g.texts.tape.now g.texts.area.now g.tokens.now addresses (lows_of marks) (highs_of marks) g.lines.now

-- they can be put
pub record Writes (tape area : Text) (tokens : List ℕ) (records : List LineRecord) (out : Cursor) : Type 0 where
  pub sound : (k : ℕ) → k < length records → Sound tape area tokens (get_or records k blank)
  pub room : Fits out (length (lines_bytes (recorded tape area tokens records)))

-- the front of `out` is the tape, the rest is as before, and the answer is the tape's length
pub record Wrote (tape out after : List ℕ) (r : ℕ) : Type 0 where
  pub holds : after ≡ tape ++ drop (length tape) out
  pub ends : r ≡ length tape
