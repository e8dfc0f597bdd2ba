-- What a token word means, and the words that point into their texts. Assumes nothing.
use Rattle.std.specs.Prelude.{ℕ, ◌+◌, ◌-◌, ◌*◌, ◌/◌, ◌%◌, ◌≤◌, ◌<◌, ◌⊎◌, ◌≡◌, List, map, eqb, length, take, drop, get_or}
use Rattle.std.specs.Prelude as std
use Rattle.reference.specs.Control.{when◌then◌else◌}
use Rattle.reference.specs.Text.{Text}
use Rattle.reference.specs.Listing.{Token, token}
use Rattle.lines.specs.Codes.{Says}
use Rattle.lines.specs.Traits.{traits}

-- kind in 3 bits, buffer in 1 bit, start in 16 bits, length in 16 bits; the bits above are 0, or what is known of the text: its code (or 0)
-- in 6 bits, and its traits

unfoldable pub kind_of : ℕ → ℕ
kind_of w = w % 8

unfoldable pub buffer_of : ℕ → ℕ
buffer_of w = w / 8 % 2

unfoldable pub start_of : ℕ → ℕ
start_of w = w / 16 % 65536

unfoldable pub len_of : ℕ → ℕ
len_of w = w / 1048576 % 65536

unfoldable pub coding_of : ℕ → ℕ
coding_of w = w / 68719476736

unfoldable pub code_of : ℕ → ℕ
code_of w = coding_of w % 64

unfoldable pub traits_of : ℕ → ℕ
traits_of w = coding_of w / 64

-- the word of these parts, with nothing known of the text
unfoldable pub word : ℕ → ℕ → ℕ → ℕ → ℕ
word kind buffer start len = kind + buffer * 8 + start * 16 + len * 1048576

-- the same word with the code c and the traits m
unfoldable pub with_coding : ℕ → ℕ → ℕ → ℕ
with_coding w c m = w % 68719476736 + (c + m * 64) * 68719476736

-- the word of a token of this kind with the text s, which stands at `start` of a buffer, with its traits
abbrev pub known_word : ℕ → ℕ → ℕ → Text → ℕ
known_word kind buffer start s = with_coding (word kind buffer start (length s)) 0 (traits (token kind s))

-- the same token with its text at `start` of the area, and with what is known of it
unfoldable pub moved : ℕ → ℕ → ℕ
moved w start = kind_of w + 8 + start * 16 + w / 1048576 * 1048576

-- shorter parts of a word's text: without its first n bytes, its first n bytes, without its last byte
unfoldable pub without_first : ℕ → ℕ → ℕ
without_first w n = word (kind_of w) (buffer_of w) (start_of w + n) (len_of w - n)

unfoldable pub first_bytes : ℕ → ℕ → ℕ
first_bytes w n = word (kind_of w) (buffer_of w) (start_of w) n

abbrev pub without_last : ℕ → ℕ
without_last w = first_bytes w (len_of w - 1)

-- where the text of a buffer stands: 0 is the tape, 1 the area
unfoldable pub source : Text → Text → ℕ → Text
source tape area buffer = when eqb buffer 0 then tape else area

unfoldable pub text_of : Text → Text → ℕ → Text
text_of tape area w = take (len_of w) (drop (start_of w) (source tape area (buffer_of w)))

abbrev pub token_of : Text → Text → ℕ → Token
token_of tape area w = token (kind_of w) (text_of tape area w)

abbrev pub tokens_of : Text → Text → List ℕ → List Token
tokens_of tape area ws = map (token_of tape area) ws

-- the code c and the traits m are true of a token of this kind with the text s
pub record Describes (c m kind : ℕ) (s : Text) : Type 0 where
  pub code : (c ≡ 0) ⊎ Says c s
  pub traits : m ≡ traits (token kind s)

-- the word says nothing of its text, or what is true of it
unfoldable pub Coded : Text → Text → ℕ → Type 0
Coded tape area w = (coding_of w ≡ 0) ⊎ Describes (code_of w) (traits_of w) (kind_of w) (text_of tape area w)

-- the word's text lies within its source, and below the buffer that a start can name; what it says of the text is true
pub record Points (tape area : Text) (w : ℕ) : Type 0 where
  pub inside : start_of w + len_of w ≤ length (source tape area (buffer_of w))
  pub short : start_of w + len_of w < 65536
  pub coded : Coded tape area w

-- the answer of `code`: the code, which is not 0, and none where it is 0
pub record CodeIs (w : ℕ) (o : std.Option ℕ) : Type 0 where
  pub some : (c : ℕ) → o ≡ std.Some c → (c ≡ code_of w) × (c ≡ 0 → ⊥)
  pub none : o ≡ std.None → code_of w ≡ 0

-- every word of the list points into its text
pub record Holds (tape area : Text) (ws : List ℕ) : Type 0 where
  pub at : (k : ℕ) → k < length ws → Points tape area (get_or ws k 0)

-- r is the same token as w, and points wherever w does
pub record Recoded (tape : Text) (w r : ℕ) : Type 0 where
  pub means : (area : Text) → token_of tape area r ≡ token_of tape area w
  pub points : (area : Text) → Points tape area w → Points tape area r

-- each word of us is the same token as the word of ws at its index, and points wherever that does
pub record Recodes (tape : Text) (ws us : List ℕ) : Type 0 where
  pub long : length us ≡ length ws
  pub at : (k : ℕ) → k < length ws → Recoded tape (get_or ws k 0) (get_or us k 0)
