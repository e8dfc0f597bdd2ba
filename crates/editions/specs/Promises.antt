-- What request M-103 promises, and examples. Proved in proofs/Promised.antt and proofs/Examples.antt. Assumes nothing.
use Rattle.std.specs.Prelude.{ℕ, ◌≤◌, ◌<◌, ◌≡◌, Bool, true, false, List, [], ◌∷◌, ℤ, length}
use Prim.Native.String.{String}
use Rattle.std.proofs.Math.Option.{none, some}
use Rattle.reference.specs.Text.{Text, bytes}
use Rattle.reference.specs.Numbers.{read_number}
use Rattle.reference.specs.Listing.{Token, token, Number, Keyword, Symbol, Listing}
use Rattle.reference.specs.Tape.{write, command_of}
use Rattle.reference.specs.Questions.{Refused, Passed, read, marks_in}
use Rattle.reference.proofs.LittleEndian.{Bytes}
use Rattle.reference.proofs.Reading.{State, left, Reached}
use Rattle.editions.specs.Numbers.{down_text, is_newer, has_no_older}
use Rattle.editions.specs.Conversion.{down_token, is_newer_number, earns_12, earns_13, change, holds, of_command, to_2018, to_2024}
use Rattle.editions.specs.Grammar.{Numeral}

-- ---- Number by Number

abbrev goes_down : String → String → Type 0
goes_down s t = down_text (bytes s) ≡ bytes t

abbrev stays : String → Type 0
stays s = goes_down s s × (has_no_older (bytes s) ≡ false)

abbrev is_refused : String → Type 0
is_refused s = has_no_older (bytes s) ≡ true

pub record OnNumbers : Type 0 where
  -- "the value is the same", by the 2024 rules: of any text, read or not
  pub same_value : (s : Text) → read_number 1 (down_text s) ≡ read_number 1 s
  -- and the new text is a numeral of the 2018 edition's grammar, of that value
  pub is_2018 : (s : Text) {z : ℤ} → read_number 1 s ≡ some z → Numeral (down_text s) z
  -- no text grows
  pub no_longer : (s : Text) → length (down_text s) ≤ length s
  -- what is not newer is kept
  pub kept : (s : Text) → is_newer s ≡ false → down_text s ≡ s
  -- and what goes down without a refusal leaves nothing newer
  pub none_newer : (s : Text) → has_no_older s ≡ false → is_newer (down_text s) ≡ false
  -- the request's example, and the readings
  pub ten : goes_down "0b1010" "0xa"
  pub zero : goes_down "0b0" "0x0"
  pub minus : goes_down "-0B0001'010" "-0xa"
  pub capital : goes_down "0X1'F" "0X1F"
  pub octal : goes_down "0'10" "010"
  -- unread, and neither binary after at most one minus nor quoted
  pub eight : stays "08"
  pub suffix : stays "10u"
  pub plus : stays "+5" × stays "+0b1"
  pub two_minuses : stays "--5" × stays "--0b1"
  pub large : stays "9223372036854775808"
  -- and 13: also where only the size is at fault
  pub no_digits : is_refused "0b" × is_refused "-0b2"
  pub two_quotes : is_refused "1''0" × is_refused "--0b1'0"
  pub large_quoted : is_refused "9'223372036854775808"

-- ---- Symbol by Symbol

pub record OnSymbols : Type 0 where
  -- a Symbol whose whole text is one of the words, in small letters
  pub symbol : earns_12 (token Symbol (bytes "bool")) ≡ true
  pub keyword : earns_12 (token Keyword (bytes "bool")) ≡ false
  pub capital : earns_12 (token Symbol (bytes "Bool")) ≡ false
  pub longer : earns_12 (token Symbol (bytes "bool2")) ≡ false

-- ---- tape by tape

-- what an accepted way down of a tape gives
pub record Lowered (tape : List ℕ) (new : List ℕ) : Type 0 where
  pub listing : Listing
  pub was_read : read tape ≡ Passed listing
  -- the new tape is accepted, and holds the listing, each Number gone down
  pub reads_back : read new ≡ Passed (change down_token listing)
  -- and the 03s as they stood
  pub marks : marks_in new ≡ marks_in tape
  -- in which none is newer
  pub older : holds is_newer_number (change down_token listing) ≡ false
  pub fits : length new ≤ length tape

-- "at its command; .. the leftmost first"
pub record Leftmost (earns : Token → Bool) (tape : List ℕ) (place : ℕ) : Type 0 where
  -- the reading comes to a command at the place
  pub state : State
  pub reached : Reached tape state
  pub there : state.at ≡ place
  -- which earns the refusal
  pub earned : of_command earns (command_of (left tape state)) ≡ true
  -- and no command that it comes to before does
  pub first : (s : State) → Reached tape s → s.at < place → of_command earns (command_of (left tape s)) ≡ false

pub record OnTapes : Type 0 where
  pub lowered : (tape : List ℕ) (output : ℕ) (new : List ℕ) → Bytes tape → to_2018 tape output ≡ Passed new → Lowered tape new
  -- down is the identity where no Number is newer
  pub down_same : (tape : List ℕ) (output : ℕ) (lines : Listing) → Bytes tape → read tape ≡ Passed lines
      → holds is_newer_number lines ≡ false
      → length tape ≤ output → to_2018 tape output ≡ Passed tape
  -- up is the identity on what it accepts
  pub up_same : (tape : List ℕ) (output : ℕ) (new : List ℕ) → Bytes tape → to_2024 tape output ≡ Passed new → new ≡ tape
  -- "Down after an accepted up gives the tape itself when no Number begins `0b` or `0B` after at most one minus, or holds a quote."
  pub down_after_up : (tape : List ℕ) (output output' : ℕ) (lines : Listing) (new : List ℕ) → Bytes tape → to_2024 tape output ≡ Passed new
      → read tape ≡ Passed lines → holds is_newer_number lines ≡ false → length new ≤ output' → to_2018 new output' ≡ Passed tape
  -- going up refuses an accepted tape for which there is room exactly if it holds a Symbol that is a new keyword: an accepted up holds
  -- none, and one that holds none is accepted
  pub raised : (tape : List ℕ) (output : ℕ) (new : List ℕ) (lines : Listing) → to_2024 tape output ≡ Passed new → read tape ≡ Passed lines
      → holds earns_12 lines ≡ false
  pub up_refuses : (tape : List ℕ) (output : ℕ) (lines : Listing) → read tape ≡ Passed lines → length tape ≤ output
      → holds earns_12 lines ≡ true
      → (place : ℕ) × (to_2024 tape output ≡ Refused 12 place)
  pub up_accepts : (tape : List ℕ) (output : ℕ) (lines : Listing) → Bytes tape → read tape ≡ Passed lines → length tape ≤ output
      → holds earns_12 lines ≡ false
      → to_2024 tape output ≡ Passed tape
  -- and going down exactly if a Number earns 13
  pub no_13 : (tape : List ℕ) (output : ℕ) (new : List ℕ) (lines : Listing) → to_2018 tape output ≡ Passed new → read tape ≡ Passed lines
      → holds earns_13 lines ≡ false
  pub down_refuses : (tape : List ℕ) (output : ℕ) (lines : Listing) → read tape ≡ Passed lines → length tape ≤ output
      → holds earns_13 lines ≡ true
      → (place : ℕ) × (to_2018 tape output ≡ Refused 13 place)
  pub down_accepts : (tape : List ℕ) (output : ℕ) (lines : Listing) → read tape ≡ Passed lines → length tape ≤ output
      → holds earns_13 lines ≡ false
      → to_2018 tape output ≡ Passed (write (change down_token lines) (marks_in tape))
  -- an accepted tape for which there is room is refused with 13, or going up with 12, at the leftmost command that earns it, and only so
  pub down_refused : (tape : List ℕ) (output number place : ℕ) (lines : Listing) → read tape ≡ Passed lines → length tape ≤ output
      → to_2018 tape output ≡ Refused number place → (number ≡ 13) × Leftmost earns_13 tape place
  pub up_refused : (tape : List ℕ) (output number place : ℕ) (lines : Listing) → read tape ≡ Passed lines → length tape ≤ output
      → to_2024 tape output ≡ Refused number place → (number ≡ 12) × Leftmost earns_12 tape place

-- ---- examples

-- a line with an 03 and two tokens of one kind and text: the first of them is at 19
abbrev twice : ℕ → String → List ℕ
twice kind s =
    write
    (record { address = none; indent = 0; tokens = token kind (bytes s) ∷ token kind (bytes s) ∷ [] } ∷ [])
    (some (record { lowest = 1; highest = 2 }) ∷ [])

pub record TapeExamples : Type 0 where
  -- each way, the 03 as it stands
  pub lowered : to_2018 (twice Number "0b1'1") 36 ≡ Passed (twice Number "0x3")
  pub raised : to_2024 (twice Number "0b1'1") 36 ≡ Passed (twice Number "0b1'1")
  -- the leftmost of two that earn 13, or 12
  pub leftmost_13 : to_2018 (twice Number "0b2") 32 ≡ Refused 13 19
  pub leftmost_12 : to_2024 (twice Symbol "true") 34 ≡ Refused 12 19
  -- 2 first, for an output shorter than the tape alone
  pub short_output : to_2018 (twice Number "0b2") 31 ≡ Refused 2 0
  pub no_tape : to_2018 [] 0 ≡ Refused 3 0
