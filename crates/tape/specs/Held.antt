-- The commands of any bytes, where each stands, and the listing that they hold. No question of document 01 is asked but 3 and 4, and the
-- limits are not: a cleaned tape may have more text than an accepted one. Of an accepted tape they are those of its listing and its marks
-- (`accepted-commands`, proofs/walk/Accepted.antt). Assumes nothing.
use Rattle.std.specs.Prelude.{ℕ, zero, suc, ◌+◌, Bool, List, [], ◌∷◌, ◌++◌, length, get_or, drop, map}
use Rattle.std.proofs.Math.Option.{Option, none, some}
use Rattle.reference.specs.Control.{not, ◌and◌, when◌then◌else◌}
use Rattle.reference.specs.Listing.{Token, Line, Listing}
use Rattle.reference.specs.Spans.{Span, Marks}
use Rattle.reference.specs.Tape.{TapeForm, old, header, Command, new_line, marked, new_token, end}
use Rattle.reference.specs.Tape.{write_command_by, command_size_by, command_by}
use Rattle.reference.specs.Questions.{is_command_by, ends_inside_by, is_end}

-- ---- the commands of some bytes

-- whether a command stands at the head of the bytes, whole, that is not the end
unfoldable pub goes_on_by : TapeForm → List ℕ → Bool
goes_on_by form rest = is_command_by form rest and ends_inside_by form rest and not (is_end (command_by form rest))

-- a command, and the place where it stands
abbrev pub Place : Type 0
Place = ℕ × Command

-- `fuel` bounds them: a command has a byte or more
unfoldable pub places_from : TapeForm → ℕ → ℕ → List ℕ → List Place
places_from form zero at rest = []
places_from form (suc fuel) at rest =
    let n : ℕ = command_size_by form rest in
    let more : List Place = places_from form fuel (at + n) (drop n rest) in
    when goes_on_by form rest then (at, command_by form rest) ∷ more else []

-- the commands of bytes that stand at an offset, one after the other, up to the end or to the first place where none stands whole
unfoldable pub places_at : TapeForm → ℕ → List ℕ → List Place
places_at form at rest = places_from form (length rest) at rest

-- those of a tape: what the form begins with is no command
abbrev pub places_by : TapeForm → List ℕ → List Place
places_by form tape = places_at form (header form) (drop (header form) tape)

-- the commands alone
abbrev pub unplaced : List Place → List Command
unplaced = map (λ p. p.1)

abbrev pub commands_by : TapeForm → List ℕ → List Command
commands_by form tape = unplaced (places_by form tape)

-- of the old form
abbrev pub goes_on : List ℕ → Bool
goes_on = goes_on_by old

abbrev pub places : List ℕ → List Place
places = places_by old

abbrev pub commands : List ℕ → List Command
commands = commands_by old

-- the first place whose command passes a test
unfoldable pub first_where : (Command → Bool) → List Place → Option ℕ
first_where test [] = none
first_where test (p ∷ more) = let later : Option ℕ = first_where test more in when test p.1 then some p.0 else later

-- commands that are written one after the other, from a place on
unfoldable pub placed : TapeForm → ℕ → List Command → List Place
placed form at [] = []
placed form at (c ∷ cs) = (at, c) ∷ placed form (at + length (write_command_by form c)) cs

-- ---- the listing that commands hold

-- the tokens up to the next line
abbrev pub tokens_of : List Command → List Token
tokens_of [] = []
tokens_of (new_line address indent ∷ more) = []
tokens_of (marked s ∷ more) = tokens_of more
tokens_of (new_token t ∷ more) = t ∷ tokens_of more
tokens_of (end ∷ more) = tokens_of more

-- the lines; a token before any line is in none
abbrev pub lines_of : List Command → Listing
lines_of [] = []
lines_of (new_line address indent ∷ more) = record { address = address; indent = indent; tokens = tokens_of more } ∷ lines_of more
lines_of (marked s ∷ more) = lines_of more
lines_of (new_token t ∷ more) = lines_of more
lines_of (end ∷ more) = lines_of more

-- the listing that a tape holds
abbrev pub held : List ℕ → Listing
held tape = lines_of (commands tape)

-- the marks up to the next line, m being those so far: the last of them
abbrev pub mark_of : Marks → List Command → Marks
mark_of m [] = m
mark_of m (new_line address indent ∷ more) = m
mark_of m (marked s ∷ more) = mark_of (some s) more
mark_of m (new_token t ∷ more) = mark_of m more
mark_of m (end ∷ more) = mark_of m more

-- the marks of each line; those before any line are in none
abbrev pub marks_of : List Command → List Marks
marks_of [] = []
marks_of (new_line address indent ∷ more) = mark_of none more ∷ marks_of more
marks_of (marked s ∷ more) = marks_of more
marks_of (new_token t ∷ more) = marks_of more
marks_of (end ∷ more) = marks_of more

-- ---- the commands that a listing with marks is written as

abbrev pub marks_put : Marks → List Command
marks_put none = []
marks_put (some s) = marked s ∷ []

abbrev pub line_put : Line → Marks → List Command
line_put l m = new_line l.address l.indent ∷ (marks_put m ++ map new_token l.tokens)

-- where the marks run out, there are none
unfoldable pub lines_put : Listing → List Marks → List Command
lines_put [] marks = []
lines_put (l ∷ ls) marks = line_put l (get_or marks 0 none) ++ lines_put ls (drop 1 marks)

-- ---- commands, a listing and marks with their parts changed

module _ (on_address : Option ℕ → Option ℕ) (on_span : Span → Span) (on_token : Token → Token) where
  abbrev pub command_with : Command → Command
  command_with (new_line address indent) = new_line (on_address address) indent
  command_with (marked s) = marked (on_span s)
  command_with (new_token t) = new_token (on_token t)
  command_with end = end

  abbrev pub line_with : Line → Line
  line_with l = record { address = on_address l.address; indent = l.indent; tokens = map on_token l.tokens }

  abbrev pub marks_with : Marks → Marks
  marks_with none = none
  marks_with (some s) = some (on_span s)
