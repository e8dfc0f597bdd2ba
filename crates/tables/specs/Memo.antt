-- The memo of short tokens: what its tables hold, and what is known of a token that stands in it. Assumes nothing.
use Rattle.std.specs.Prelude.{ℕ, ◌+◌, ◌*◌, ◌%◌, ◌≤◌, ◌<◌, ◌⊎◌, ◌≡◌, true, List, leb, length, take, drop, get_or}
use Rattle.std.proofs.Math.Option.{Option, none, some}
use Rattle.reference.specs.Control.{◌and◌, when◌then◌else◌}
use Rattle.reference.specs.Listing.{Token}
use Rattle.reference.specs.Tape.{to_le_bytes, from_le_bytes, new_token, text_length, write_command}
use Rattle.reference.specs.Questions.{is_within, is_printable}
use Rattle.lines.specs.Words.{len_of, word, Recoded}

-- ---- tokens and their words

-- a command of this token stands at the offset
pub record TokenAt (tape : List ℕ) (at : ℕ) (t : Token) : Type 0 where
  pub low : t.kind < 8
  pub stands : take (3 + length t.text) (drop at tape) ≡ write_command (new_token t)

-- it passes the questions of a token alone
pub record Good (t : Token) : Type 0 where
  pub within : is_within (new_token t) ≡ true
  pub printable : is_printable (new_token t) ≡ true

-- its word there, with no code
abbrev pub plain_word : ℕ → Token → ℕ
plain_word at t = word t.kind 0 (at + 3) (length t.text)

-- the answer of `recall`: a word of the token at the offset, a short one that passes the questions of a token alone
pub record Recalled (tape : List ℕ) (at w : ℕ) : Type 0 where
  pub token : Token
  pub stands : TokenAt tape at token
  pub good : Good token
  pub recoded : Recoded tape (plain_word at token) w
  pub len : len_of w ≡ length token.text
  pub short : length token.text ≤ 5

-- what `remember` is given: a word of the token at the offset, with the parts that it had before it was coded
pub record Known (tape : List ℕ) (at w : ℕ) : Type 0 where
  pub token : Token
  pub stands : TokenAt tape at token
  pub good : Good token
  pub near : at + 3 + length token.text < 65536
  pub recoded : Recoded tape (plain_word at token) w
  pub parts : w % 68719476736 ≡ plain_word at token % 68719476736

-- ---- the tables

-- The key of the token at the head of some bytes: all bytes of its command as one number, the lowest first. None where the text has more
-- than five bytes, nor where fewer than eight bytes are left. (Where another command stands there, it is no token's key.)
unfoldable pub key_of : List ℕ → Option ℕ
key_of rest = when leb 8 (length rest) and leb (text_length rest) 5 then some (from_le_bytes (take (3 + text_length rest) rest)) else none

-- what stands in an empty place: no key, since the length in it is 65,535
abbrev pub EMPTY : ℕ
EMPTY = 18446744073709551615

-- The key's bytes are the command of a short token. The word is what the token's would be at offset 0; moved, it is right wherever the
-- token stands.
pub record Remembered (key w : ℕ) : Type 0 where
  pub token : Token
  pub low : token.kind < 8
  pub good : Good token
  pub short : length token.text ≤ 5
  pub bytes : to_le_bytes (3 + length token.text) key ≡ write_command (new_token token)
  pub parts : w % 68719476736 ≡ plain_word 0 token
  pub recoded : (tape : List ℕ) (at : ℕ) → TokenAt tape at token → at + 8 < 65536 → Recoded tape (plain_word at token) (w + at * 16)

abbrev pub PLACES : ℕ
PLACES = 512

-- each place is empty, or remembers a token
pub record Memory (keys words : List ℕ) : Type 0 where
  pub long_keys : length keys ≡ PLACES
  pub long_words : length words ≡ PLACES
  pub at : (k : ℕ) → k < PLACES → (get_or keys k 0 ≡ EMPTY) ⊎ Remembered (get_or keys k 0) (get_or words k 0)
