-- What the commands come to as bytes, from the texts that are put one after the other; how many they are. Assumes nothing.
use Prim.Native.Nat.{ℕ, ◌+◌, ◌%◌, ◌<◌}
use native.Mathlib.Omega.{arith}
use mathlib.Core.Path.{◌≡◌, refl}
use mathlib.Core.Option.{none, some}
use mathlib.Core.List.{List, [], ◌∷◌, ◌++◌}
use lib.ListN.{length, length-append}
use Rattle.std.specs.Prelude as std
use Rattle.reference.specs.Options.{option_of}
use Rattle.reference.specs.Listing.{Token, token}
use Rattle.reference.specs.Spans.{Span}
use Rattle.reference.specs.Tape.{TapeForm, line_byte, marks_byte, width, to_le_bytes, new_line, marked, new_token, write_command, write_command_by}
use Rattle.reference.proofs.LittleEndian.{to_length}

-- ---- the two forms

-- a token has the same bytes in both
pub token_same : (form : TapeForm) (t : Token) → write_command_by form (new_token t) ≡ write_command (new_token t)
unfolding write_command_by
token_same form t = refl

-- ---- how many bytes

pub token_size : (t : Token) → length (write_command (new_token t)) ≡ 3 + length t.text
unfolding write_command_by
token_size t = omega (arith, length-append (to_le_bytes 2 (length t.text)) t.text, to_length 2 (length t.text))

module _ (form : TapeForm) where
  pub addressed_size : (address indent : ℕ) → length (write_command_by form (new_line (some address) indent)) ≡ 2 + width form
  unfolding write_command_by
  addressed_size address indent = omega (arith, length-append (to_le_bytes (width form) address) (indent ∷ []), to_length (width form) address)

  pub plain_size : (indent : ℕ) → length (write_command_by form (new_line none indent)) ≡ 2
  unfolding write_command_by
  plain_size indent = refl

  pub marked_size : (s : Span) → length (write_command_by form (marked s)) ≡ 1 + width form + width form
  unfolding write_command_by
  marked_size s =
      omega (
        arith,
        length-append (to_le_bytes (width form) s.lowest) (to_le_bytes (width form) s.highest),
        to_length (width form) s.lowest,
        to_length (width form) s.highest,
      )

-- ---- the texts one after the other

byte : (b : ℕ) → b < 256 → to_le_bytes 1 b ≡ b ∷ []
unfolding to_le_bytes
byte b h = let low : b % 256 ≡ b = omega arith in rw low

module _ (form : TapeForm) where
  -- a line's command up to its indent
  abbrev pub line_front : std.Option ℕ → List ℕ
  line_front (std.Some address) = (line_byte form ∷ []) ++ to_le_bytes (width form) address
  line_front std.None = 2 ∷ []

  pub line_text : (address : std.Option ℕ) (indent : ℕ) → indent < 256
      → line_front address ++ to_le_bytes 1 indent ≡ write_command_by form (new_line (option_of address) indent)
  unfolding write_command_by
  line_text (std.Some address) indent h = rw (byte indent h)
  line_text std.None indent h = rw (byte indent h)

  pub line_size : (address : std.Option ℕ) (indent : ℕ) → indent < 256
      → length (write_command_by form (new_line (option_of address) indent)) ≡ length (line_front address) + 1
  line_size address indent h = rw (← (line_text address indent h)) (omega (arith, length-append (line_front address) (to_le_bytes 1 indent), to_length 1 indent))

  pub marked_text : (low high : ℕ)
      → ((marks_byte form ∷ []) ++ to_le_bytes (width form) low) ++ to_le_bytes (width form) high
      ≡ write_command_by form (marked (record { lowest = low; highest = high }))
  unfolding write_command_by
  marked_text low high = refl

pub token_text : (kind : ℕ) (s : List ℕ) → kind < 8
    → (to_le_bytes 1 (16 + kind) ++ to_le_bytes 2 (length s)) ++ s ≡ write_command (new_token (token kind s))
unfolding write_command_by
token_text kind s h = rw (byte (16 + kind) (omega arith))
