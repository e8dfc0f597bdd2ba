-- The words for cautions: of each of the ten kinds its bit, its name and its sentence; a line for each kind of a set; the line over those
-- of a listing. Assumes nothing.
use Rattle.std.specs.Prelude.{ℕ, Bool, List, [], ◌∷◌, ◌++◌, eqb, not, if◌then◌else◌}
use Rattle.std.specs.Int.Bits.{bit_and}
use mathlib.Core.List.{flat_map}
use Rattle.reference.specs.Text.{Text, bytes}
use Rattle.printing.specs.Decimals.{decimal}
use Rattle.cautions.specs.Kinds as K
use Rattle.caution_words.specs.declared.each.Caution.{Caution}
use Rattle.caution_words.specs.declared.each.Caution.TheVariants as caution

-- ---- a kind

abbrev pub bit_of : Caution → ℕ
bit_of caution.OddForm = K.odd_form
bit_of caution.StillRead = K.still_read
bit_of caution.Overwritten = K.overwritten
bit_of caution.CallMoved = K.call_moved
bit_of caution.ReadMoved = K.read_moved
bit_of caution.OtherWidth = K.other_width
bit_of caution.OtherText = K.other_text
bit_of caution.OddNumber = K.odd_number
bit_of caution.Slot = K.slot
bit_of caution.HandedOver = K.handed_over

abbrev pub name_of : Caution → Text
name_of caution.OddForm = bytes "odd-form"
name_of caution.StillRead = bytes "still-read"
name_of caution.Overwritten = bytes "overwritten"
name_of caution.CallMoved = bytes "call-moved"
name_of caution.ReadMoved = bytes "read-moved"
name_of caution.OtherWidth = bytes "other-width"
name_of caution.OtherText = bytes "other-text"
name_of caution.OddNumber = bytes "odd-number"
name_of caution.Slot = bytes "slot"
name_of caution.HandedOver = bytes "handed-over"

-- the sentences of crate cautions' definitions
abbrev pub sentence_of : Caution → Text
sentence_of caution.OddForm =
    bytes "A line here, or one that the value may reach, is not looked into (inline assembly, an instruction by name, two statements, "
    ++ bytes "`&&`, a loop other than do .. while, a line entered from elsewhere): compare with the raw lines yourself."
sentence_of caution.StillRead = bytes "The register was read elsewhere too, on this line or another: there it now holds an older value."
sentence_of caution.Overwritten =
    bytes "A call stands between the value's assignment and its use here, which may have overwritten the register."
sentence_of caution.CallMoved = bytes "A call is now made in another order, after other reads, or only under a condition."
sentence_of caution.ReadMoved =
    bytes "A value is now read later, in another order, or only under a condition: mind what calls change, and device registers."
sentence_of caution.OtherWidth =
    bytes "The value went through a part of a register, or is now computed or compared at another width or sign."
sentence_of caution.OtherText =
    bytes
    "Read as C, the line's text groups otherwise than the joined expression, or writes what was only read, or counts elements for bytes."
sentence_of caution.OddNumber = bytes "A number is large, or not spelt plainly: C may read it, or add it up, otherwise."
sentence_of caution.Slot = bytes "A stack slot was taken for a register; it is memory, and pointers and calls may reach it."
sentence_of caution.HandedOver =
    bytes "The value may be handed over unseen: to a call that does not spell its arguments, or back to the caller "
    ++ bytes "(the result, and the registers that calls preserve)."

-- all of them, in the order of their bits
abbrev pub every : List Caution
every =
    caution.OddForm ∷ caution.StillRead ∷ caution.Overwritten ∷ caution.CallMoved ∷ caution.ReadMoved ∷ caution.OtherWidth
    ∷ caution.OtherText ∷ caution.OddNumber ∷ caution.Slot ∷ caution.HandedOver ∷ []

-- whether it is in a set
abbrev pub has : ℕ → Caution → Bool
has set kind = not (eqb (bit_and set (bit_of kind)) 0)

-- ---- a set

-- NAME: SENTENCE
unfoldable pub kind_line : Caution → Text
kind_line kind = bytes "    " ++ name_of kind ++ bytes ": " ++ sentence_of kind ++ (10 ∷ [])

-- what a text for each kind makes of a set: those of the kinds that are in it, one after the other
abbrev pub given : (Caution → Text) → ℕ → Caution → Text
given words set kind = if has set kind then words kind else []

unfoldable pub told_by : (Caution → Text) → ℕ → List Caution → Text
told_by words set kinds = flat_map (given words set) kinds

-- a line for each kind of a set
unfoldable pub kinds_told : ℕ → Text
kinds_told set = told_by kind_line set every

-- ---- a listing

-- what it means that a line is not cautioned
abbrev pub silence : Text
silence = bytes "none of the known ways was found here; it is no proof that the line means the same"

-- how many of its lines are cautioned, of how many
unfoldable pub head : ℕ → ℕ → Text
head cautioned lines =
    bytes "cautioned lines: " ++ decimal cautioned ++ bytes " of " ++ decimal lines ++ bytes "; of a line without one: " ++ silence
    ++ (10 ∷ [])
