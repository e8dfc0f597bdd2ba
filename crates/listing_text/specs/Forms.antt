-- A command of a tape as text, in two forms. To read: the marks where they say more than the address, the address in hexadecimal or blanks,
-- two blanks an indent, the texts of the tokens. Exact: fields apart by tabs, ADDRESS INDENT [m:LOWEST..HIGHEST] [KIND:TEXT].., which says
-- all that the tape says. Assumes nothing.
use Rattle.std.specs.Prelude.{ℕ, zero, suc, ◌+◌, ◌-◌, ◌^◌, ◌≤◌, ◌≡◌, Bool, true}
use Rattle.std.specs.Prelude.{false, List, [], ◌∷◌, ◌++◌, eqb, ltb, length, take, drop}
use Rattle.std.specs.Prelude.{get_or}
use Rattle.std.specs.Prelude as std
use Rattle.std.proofs.Math.Option.{Option, none, some}
use Rattle.reference.specs.Control.{◌and◌, when◌then◌else◌}
use Rattle.reference.specs.Text.{Text, bytes}
use Rattle.reference.specs.Spans.{Span}
use Rattle.reference.specs.Tape.{Command, new_line, marked, new_token, end}
use Rattle.reference.specs.Questions.{Answer, Refused, Passed}
use Rattle.tape.specs.Commands.{Sized, standing}
use Rattle.tape.specs.declared.commands.Command as Code'
use Rattle.tape.specs.declared.commands.Command.TheVariants.{Addressed, Plain, Marked, Token, End}
use Rattle.lines.specs.declared.marks.Marks as Code
use Rattle.printing.specs.Decimals.{decimal}
use Rattle.io.specs.Digits.{last_digits}

-- ---- pieces

-- a newline ends the line before, if there is one: not in front of the first command
unfoldable pub line_end : ℕ → Text
line_end at = when eqb at 0 then [] else 10 ∷ []

-- the last k hexadecimal digits of a number, in lower case
unfoldable pub hexadecimal : ℕ → ℕ → Text
hexadecimal k n = last_digits 16 k n

-- the fewest digits from k on that hold n, at most `more` more
unfoldable pub enough : ℕ → ℕ → ℕ → ℕ
enough zero k n = k
enough (suc more) k n = let r = enough more (suc k) n in when ltb n (16 ^ k) then k else r

-- an address to read: eight digits, or as many more as it takes
unfoldable pub short_hex : ℕ → Text
short_hex n = hexadecimal (enough 8 8 n) n

unfoldable pub blanks : ℕ → Text
blanks zero = []
blanks (suc n) = 32 ∷ 32 ∷ blanks n

-- ---- exact

-- by kind: Text, Register, Number, Keyword, Symbol, Address, Punct, Prefix
abbrev pub letters : Text
letters = bytes "trnksapx"

-- ADDRESS: 16 digits, or - where the line has none
unfoldable pub exact_address : Option ℕ → Text
exact_address none = bytes "-"
exact_address (some address) = hexadecimal 16 address

-- the command that begins at an offset
unfoldable pub exact_command : ℕ → Command → Text
exact_command at (new_line address indent) = line_end at ++ exact_address address ++ (9 ∷ decimal indent)
exact_command at (marked s) = (9 ∷ bytes "m:") ++ hexadecimal 16 s.lowest ++ bytes ".." ++ hexadecimal 16 s.highest
exact_command at (new_token t) = (9 ∷ get_or letters t.kind 0 ∷ 58 ∷ []) ++ t.text
exact_command at end = line_end at

-- ---- to read

-- the code's marks
abbrev pub span_of : Code.Marks → Span
span_of s = record { lowest = s.low; highest = s.high }

abbrev pub marks_of : std.Option Code.Marks → Option Span
marks_of (std.Some s) = some (span_of s)
marks_of std.None = none

-- what a line's address says: from it to it; of a line without one nothing, from 1 to 0
unfoldable pub own_span : Option ℕ → Span
own_span none = record { lowest = 1; highest = 0 }
own_span (some address) = record { lowest = address; highest = address }

-- marks, unless they say just that
unfoldable pub span_text : Span → Option Span → Text
span_text own none = []
span_text own (some s) =
    when eqb s.lowest own.lowest and eqb s.highest own.highest then []
    else short_hex s.lowest ++ bytes ".." ++ short_hex s.highest ++ bytes " "

unfoldable pub read_address : Option ℕ → Text
read_address none = bytes "          "
read_address (some address) = short_hex address ++ bytes "  "

-- the command that begins at an offset, `marks` standing directly behind it
unfoldable pub read_command_text : ℕ → Option Span → Command → Text
read_command_text at marks (new_line address indent) =
    line_end at ++ span_text (own_span address) marks ++ read_address address ++ blanks indent
read_command_text at marks (marked s) = []
read_command_text at marks (new_token t) = t.text
read_command_text at marks end = line_end at

abbrev pub span_in : Command → Option Span
span_in (new_line address indent) = none
span_in (marked s) = some s
span_in (new_token t) = none
span_in end = none

abbrev pub marks_found : Answer Sized → Option Span
marks_found (Refused number place) = none
marks_found (Passed c) = span_in c.0

-- the marks that stand at an offset of a tape, if any
abbrev pub marks_at : List ℕ → ℕ → Option Span
marks_at tape at = marks_found (standing tape at)

-- ---- either

-- the command that begins at an offset of a tape and ends at `next`
abbrev pub command_text : Bool → List ℕ → ℕ → ℕ → Command → Text
command_text true tape at next c = exact_command at c
command_text false tape at next c = read_command_text at (marks_at tape next) c

-- ---- what the code knows of a command

-- a token's text ends at `next`
abbrev pub TokenEnds : List ℕ → ℕ → ℕ → Code'.Command → Type 0
TokenEnds tape at next (Addressed address indent) = Unit {0}
TokenEnds tape at next (Plain indent) = Unit {0}
TokenEnds tape at next (Marked low high) = Unit {0}
TokenEnds tape at next (Token kind count) =
    (at + 3 ≤ next) × (next ≤ length tape) × (take (next - (at + 3)) (drop (at + 3) tape) ≡ take count (drop (at + 3) tape))
TokenEnds tape at next End = Unit {0}
