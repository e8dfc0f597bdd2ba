-- What a line word means, and the listing of line words. A line's tokens are any part of the token words: what stands between the parts is
-- never looked at. Assumes nothing.
use Rattle.std.specs.Prelude.{ℕ, ◌+◌, ◌*◌, ◌/◌, ◌%◌, ◌≤◌, ◌<◌, Bool, true, false, List, map, eqb, length, take, drop, get_or}
use Rattle.std.proofs.Math.Option.{Option, none, some}
use Rattle.reference.specs.Control.{when◌then◌else◌}
use Rattle.reference.specs.Text.{Text}
use Rattle.reference.specs.Listing.{Line, Listing}
use Rattle.lines.specs.Words.{tokens_of, Holds}
use Rattle.lines.specs.Facts.{Tells}

-- first token in 16 bits, count in 11 bits, indent in 6 bits, whether it has an address in 1 bit, origin in 8 bits; above them the facts

unfoldable pub first_of : ℕ → ℕ
first_of l = l % 65536

unfoldable pub count_of : ℕ → ℕ
count_of l = l / 65536 % 2048

unfoldable pub indent_of : ℕ → ℕ
indent_of l = l / 134217728 % 64

unfoldable pub addressed_of : ℕ → ℕ
addressed_of l = l / 8589934592 % 2

-- the number of the input line that the line was
unfoldable pub origin_of : ℕ → ℕ
origin_of l = l / 17179869184 % 256

unfoldable pub facts_of : ℕ → ℕ
facts_of l = l / 4398046511104

-- the same line with the facts m
unfoldable pub with_facts : ℕ → ℕ → ℕ
with_facts l m = l % 4398046511104 + m * 4398046511104

-- 1 for a line with an address, else 0
abbrev pub flag : Bool → ℕ
flag true = 1
flag false = 0

-- the word of these parts, with no facts
unfoldable pub line_word : ℕ → ℕ → ℕ → ℕ → ℕ → ℕ
line_word first count indent addressed origin =
    first + count * 65536 + indent * 134217728 + addressed * 8589934592 + origin * 17179869184

-- the same line with `count` tokens from `first` on, with no facts
unfoldable pub with_part : ℕ → ℕ → ℕ → ℕ
with_part l first count = line_word first count (indent_of l) (addressed_of l) (origin_of l)

-- the words of a line
abbrev pub part_of : List ℕ → ℕ → List ℕ
part_of tokens l = take (count_of l) (drop (first_of l) tokens)

-- `addresses` has the addresses by the number of the input line
unfoldable pub address_in : List ℕ → ℕ → Option ℕ
address_in addresses l = when eqb (addressed_of l) 1 then some (get_or addresses (origin_of l) 0) else none

-- What is read as a line's address: its own, if it has one; or, of every line, the number of the input line that it was. What is said of
-- every reading says therefore which lines stand where.
pub data Reading : Type 0 where
  own : List ℕ → Reading
  numbered : Reading

abbrev pub read_as : Reading → ℕ → Option ℕ
read_as (own addresses) l = address_in addresses l
read_as numbered l = some (origin_of l)

abbrev pub line_read : Text → Text → List ℕ → Reading → ℕ → Line
line_read tape area tokens reading l =
    record { address = read_as reading l; indent = indent_of l; tokens = tokens_of tape area (part_of tokens l) }

abbrev pub listing_read : Text → Text → List ℕ → Reading → List ℕ → Listing
listing_read tape area tokens reading lines = map (line_read tape area tokens reading) lines

abbrev pub line_in : Text → Text → List ℕ → List ℕ → ℕ → Line
line_in tape area tokens addresses l = line_read tape area tokens (own addresses) l

abbrev pub listing_of : Text → Text → List ℕ → List ℕ → List ℕ → Listing
listing_of tape area tokens addresses lines = listing_read tape area tokens (own addresses) lines

-- a line without its address, of which what only reads a listing says nothing
abbrev pub bare : Line → Line
bare l = record { address = none; indent = l.indent; tokens = l.tokens }

abbrev pub bare_in : Text → Text → List ℕ → ℕ → Line
bare_in tape area tokens l = record { address = none; indent = indent_of l; tokens = tokens_of tape area (part_of tokens l) }

abbrev pub bare_listing : Text → Text → List ℕ → List ℕ → Listing
bare_listing tape area tokens lines = map (bare_in tape area tokens) lines

-- the line is a part of the tokens, and each of its words points into its text; its facts say nothing false
pub record Lined (tape area : Text) (tokens : List ℕ) (l : ℕ) : Type 0 where
  pub inside : first_of l + count_of l ≤ length tokens
  pub holds : Holds tape area (part_of tokens l)
  pub facts : Tells 1 (facts_of l) (tokens_of tape area (part_of tokens l))

-- each line of the list is a part of the tokens that can be read (`Lined`)
pub record Listed (tape area : Text) (tokens lines : List ℕ) : Type 0 where
  pub at : (k : ℕ) → k < length lines → Lined tape area tokens (get_or lines k 0)
