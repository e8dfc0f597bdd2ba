-- What the lines and tokens that the code has at hand mean. Assumes nothing.
use Rattle.std.specs.Prelude as std
use Rattle.std.specs.Prelude.{ℕ, List}
use Rattle.std.proofs.Math.Option.{none, some}
use Rattle.reference.specs.Options.{option_of}
use Rattle.reference.specs.Spans.{Marks}
use Rattle.reference.specs.Listing as Listing
use Rattle.reference.specs.Tape.{old}
use Rattle.tape.specs.Held.{unplaced, tokens_of, lines_of, mark_of}
use Rattle.tape.specs.Walk.{left}
use Rattle.tallies.specs.declared.listing.Token.{Token}
use Rattle.tallies.specs.declared.listing.Tokens.{Tokens}
use Rattle.tallies.specs.declared.listing.Line.{Line}
use Rattle.tallies.specs.declared.listing.Lines.{Lines}

-- ---- tokens

abbrev pub token_shown : Token → Listing.Token
token_shown t = Listing.token t.kind t.text.now

-- those that are still to come
abbrev pub tokens_left : Tokens → List Listing.Token
tokens_left s = tokens_of (unplaced (left old s.commands))

-- ---- lines

abbrev pub line_shown : Line → Listing.Line
line_shown l = record { address = option_of l.address; indent = l.indent; tokens = tokens_of (unplaced (left old l.body)) }

-- the marks of a line, from what follows its address and indent
abbrev pub marks_left : Line → Marks
marks_left l = mark_of none (unplaced (left old l.body))

abbrev pub marks_shown : std.Option (ℕ × ℕ) → Marks
marks_shown (std.Some m) = some (record { lowest = m.0; highest = m.1 })
marks_shown std.None = none

-- those that are still to come
abbrev pub lines_left : Lines → Listing.Listing
lines_left s = lines_of (unplaced (left old s.commands))
