-- What the command writes of a reply. Assumes nothing.
use Rattle.std.specs.Prelude.{ℕ, ◌/◌, ◌%◌, ◌||◌, eqb, ltb, get_or, if◌then◌else◌}
use mathlib.Core.List.{List, [], ◌∷◌, ◌++◌, flat_map}
use Rattle.reference.specs.Text.{Text, bytes}
use Rattle.reference.specs.Numbers.{digit_byte}
use Rattle.reference.specs.Run as R
use Rattle.numbers.specs.Writing.{hexadecimal}
use Rattle.printing.specs.Decimals.{decimal}

-- what each question's refusal means, by its number, from docs/TAPE.md; there is no question 0
unfoldable pub meanings : List Text
meanings =
    bytes ""
    ∷ bytes "the convention is not 0, 1 or 2"
    ∷ bytes "a buffer that was lent is too short"
    ∷ bytes "no command begins at this offset: the tape has no more bytes, or the byte there begins none"
    ∷ bytes "the command that begins at this offset runs past the end of the tape"
    ∷ bytes "at this offset stands a token before any line, or marks that follow no line or have their lowest above their highest"
    ∷ bytes "at this offset stands an indent above 63, a text with no byte, or a number of more than 24 bytes"
    ∷ bytes "the byte at this offset, in a text, is not printable (20 to 7E)"
    ∷ bytes "the tape goes on behind the end that stands at this offset"
    ∷ bytes "the number edition is not 0 or 1"
    ∷ bytes "with the command at this offset there are more than 256 lines or 1,024 tokens"
    ∷ bytes "with the text at this offset there are more than 24,576 bytes of text"
    ∷ bytes "the Symbol at this offset is a keyword of C's edition of 2024"
    ∷ bytes "the Number at this offset is binary or has quotes, and the edition of 2024 does not read it"
    ∷ bytes "the line of this number, counted from 0, is the first that is not as the profile of straight pieces wants it"
    ∷ bytes "no start value of the chosen register makes the formula return this value"
    ∷ bytes "the chosen register, or one that has a value, is no 64-bit register (as rax, r8)"
    ∷ bytes "more than 256 lines are asked for"
    ∷ bytes "the command at this offset has an address below the base, too far above it, or past the last address"
    ∷ bytes "the tape does not begin with its base (06)"
    ∷ bytes "no state is held under this name"
    ∷ bytes "eight states are held, and this name is new"
    ∷ bytes "the cell of this number, counted from 0, is damaged"
    ∷ []

-- nothing for a number that no question has
unfoldable pub meaning : ℕ → Text
meaning number = get_or meanings number []

-- refused NUMBER at PLACE
unfoldable pub head : ℕ → ℕ → Text
head number place = bytes "refused " ++ decimal number ++ bytes " at " ++ decimal place

-- refused NUMBER at PLACE: WORDS
unfoldable pub refusal : ℕ → ℕ → Text
refusal number place = bytes "refused " ++ decimal number ++ bytes " at " ++ decimal place ++ bytes ": " ++ meaning number ++ (10 ∷ [])

-- ---- what a cleaning did

unfoldable pub three : ℕ → ℕ → ℕ → Text
three first second third = bytes ", attempts " ++ decimal first ++ bytes " " ++ decimal second ++ bytes " " ++ decimal third

unfoldable pub settled : ℕ → ℕ → Text
settled rounds attempts = bytes ", rounds " ++ decimal rounds ++ bytes ", attempts " ++ decimal attempts

unfoldable pub tallied : R.Tally → Text
tallied (R.three first second third) = three first second third
tallied (R.settled rounds attempts) = settled rounds attempts

unfoldable pub counts : ℕ → R.Tally → ℕ → ℕ → ℕ → Text
counts size tally removed cut cautioned =
    bytes "length " ++ decimal size ++ tallied tally ++ bytes ", lines removed " ++ decimal removed ++ bytes ", results cut " ++ decimal cut
    ++ bytes ", lines cautioned " ++ decimal cautioned ++ (10 ∷ [])

-- ---- a start value (request M-107)

-- REG = 0xHEX (DECIMAL)
unfoldable pub started : Text → ℕ → Text
started chosen v = chosen ++ bytes " = 0x" ++ hexadecimal v ++ bytes " (" ++ decimal v ++ bytes ")" ++ (10 ∷ [])

-- ---- the name of a state

-- \xHH
abbrev pub escape : ℕ → Text
escape b = 92 ∷ 120 ∷ digit_byte (b / 16) ∷ digit_byte (b % 16) ∷ []

-- a byte that can be printed (20 to 7E) stands as it is, but for the backslash
abbrev pub visible_byte : ℕ → Text
visible_byte b = if ltb b 32 || ltb 126 b || eqb b 92 then escape b else b ∷ []

unfoldable pub visible : Text → Text
visible t = flat_map visible_byte t

-- ---- a text as it stands between the quotes of JSON

-- a quote and a backslash behind a backslash; a byte that cannot be printed as \u00HH
abbrev pub quoted_byte : ℕ → Text
quoted_byte b =
    if eqb b 34 || eqb b 92 then 92 ∷ b ∷ []
    else if ltb b 32 || ltb 126 b then 92 ∷ 117 ∷ 48 ∷ 48 ∷ digit_byte (b / 16) ∷ digit_byte (b % 16) ∷ []
    else b ∷ []

unfoldable pub quoted : Text → Text
quoted t = flat_map quoted_byte t
