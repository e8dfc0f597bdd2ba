-- What a text in the exact form reads back as. Lines end with a newline, the last one there or with the text; the fields of a line are
-- apart by tabs: the address, the indent, then marks and tokens. Assumes nothing.
use Rattle.std.specs.Prelude.{ℕ, suc, ◌≡◌, Bool, true, false, List, [], ◌∷◌, ◌++◌, eqb, ltb, length, take, drop, get_or}
use Rattle.std.proofs.Math.Option.{Option, none, some}
use Rattle.reference.specs.Control.{when◌then◌else◌, let_some◌else◌then◌}
use Rattle.reference.specs.Lists.{position}
use Rattle.reference.specs.Text.{Text, bytes, ◌≟◌}
use Rattle.reference.specs.Listing.{token}
use Rattle.reference.specs.Tape.{Command, new_line, marked, new_token, end, write_command}
use Rattle.words.specs.Splitting.{onto}
use Rattle.words.specs.Numerals.{number_in}
use Rattle.listing_text.specs.Room.{laid}
use Rattle.listing_text.specs.Forms.{letters}
use Rattle.std.specs.Prelude.{Result, Ok, Err}
use Rattle.listing_text.specs.declared.reading.Unmade.{Unmade}
use Rattle.listing_text.specs.declared.reading.Unmade.TheVariants.{Full, Wrong}

-- ---- lines and fields

-- texts that each end with the byte b, the last one there or with the whole
unfoldable pub ended : ℕ → Text → List Text
ended b [] = []
ended b (x ∷ t) = let rest = ended b t in when eqb x b then [] ∷ rest else onto x rest

-- texts between the bytes b: one more than there are of these
unfoldable pub apart : ℕ → Text → List Text
apart b [] = [] ∷ []
apart b (x ∷ t) = let rest = apart b t in when eqb x b then [] ∷ rest else onto x rest

-- ---- a field

-- -: no address; otherwise 1 to 16 hexadecimal digits
unfoldable pub address_in : Text → Option (Option ℕ)
address_in f = when f ≟ bytes "-" then some none else let_some (number_in 16 f) else none then λ n. some (some n)

-- 1 to 16 decimal digits, at most 255: what a byte holds
unfoldable pub indent_in : Text → Option ℕ
indent_in f = let_some (number_in 10 f) else none then λ n. when ltb 255 n then none else some n

-- the command of a line
unfoldable pub line_command : Text → Text → Option Command
line_command a i =
    let_some (address_in a) else none then λ address.
    let_some (indent_in i) else none then λ indent.
    some (new_line address indent)

-- LOWEST..HIGHEST, 16 digits each
unfoldable pub span_command : Text → Option Command
span_command t =
    when eqb (length t) 34 then
    (when take 2 (drop 16 t) ≟ bytes ".." then
    (let_some (number_in 16 (take 16 t)) else none then λ low.
    let_some (number_in 16 (drop 18 t)) else none then λ high.
    some (marked (record { lowest = low; highest = high })))
    else none)
    else none

-- a letter's kind, and a text of at most 65,535 bytes: what two bytes count
unfoldable pub token_command : ℕ → Text → Option Command
token_command letter t =
    let_some (position (eqb letter) letters) else none then λ kind.
    when ltb 65535 (length t) then none else some (new_token (token kind t))

-- a letter, a colon, and marks or a text
unfoldable pub field_command : Text → Option Command
field_command f =
    when ltb (length f) 2 then none
    else when eqb (get_or f 1 0) 58 then
    (when eqb (get_or f 0 0) 109 then span_command (drop 2 f) else token_command (get_or f 0 0) (drop 2 f))
    else none

-- ---- a line

-- the bytes of the commands up to the first field that is wrong, and whether none is
pub record Read : Type 0 where
  pub bytes : List ℕ
  pub right : Bool

abbrev pub nothing : Bool → Read
nothing right = record { bytes = []; right = right }

-- a command, if it is one, and what is read behind it
unfoldable pub then_read : Option Command → Read → Read
then_read none r = nothing false
then_read (some c) r = record { bytes = write_command c ++ r.bytes; right = r.right }

unfoldable pub fields_read : List Text → Read
fields_read [] = nothing true
fields_read (f ∷ fs) = then_read (field_command f) (fields_read fs)

-- two fields at least
unfoldable pub line_read : List Text → Read
line_read [] = nothing false
line_read (a ∷ []) = nothing false
line_read (a ∷ i ∷ fs) = then_read (line_command a i) (fields_read fs)

-- ---- the whole text

-- the bytes up to the first field that is wrong, and the number of its line, from 0
pub record Tape : Type 0 where
  pub bytes : List ℕ
  pub wrong : Option ℕ

unfoldable pub then_lines : ℕ → Read → Tape → Tape
then_lines n r rest =
    when r.right then record { bytes = r.bytes ++ rest.bytes; wrong = rest.wrong } else record { bytes = r.bytes; wrong = some n }

unfoldable pub lines_read : ℕ → List Text → Tape
lines_read n [] = record { bytes = write_command end; wrong = none }
lines_read n (l ∷ ls) = then_lines n (line_read (apart 9 l)) (lines_read (suc n) ls)

-- the tape of a text
unfoldable pub tape_of : Text → Tape
tape_of text = lines_read 0 (ended 10 text)

-- ---- what the code answers of it

-- with room for so many bytes: the tape's length; a wrong line's number; or that the tape does not fit
unfoldable pub made_of : ℕ → Tape → Result ℕ Unmade
made_of room t = let_some t.wrong else (when ltb room (length t.bytes) then Err Full else Ok (length t.bytes)) then λ n. Err (Wrong n)

-- the slice holds as much of the bytes as it has room for
pub record Makes (t : Tape) (out out' : List ℕ) (r : Result ℕ Unmade) : Type 0 where
  pub bytes_are : out' ≡ laid out t.bytes
  pub answer_is : r ≡ made_of (length out) t
