-- The ten kinds of caution, in a plant programmer's words. A kind is a bit, and a set of kinds the number with those bits. Assumes nothing.
use Rattle.std.specs.Prelude.{ℕ, ◌≡◌, Bool, List, [], ◌∷◌, bit_or}
use Rattle.reference.specs.Control.{when◌then◌else◌}

-- A line here, or one that the value may reach, is not looked into (inline assembly, an instruction by name, two statements, `&&`, a loop
-- other than do .. while, a line entered from elsewhere): compare with the raw lines yourself.
abbrev pub odd_form : ℕ
odd_form = 1

-- The register was read elsewhere too, on this line or another: there it now holds an older value.
abbrev pub still_read : ℕ
still_read = 2

-- A call stands between the value's assignment and its use here, which may have overwritten the register.
abbrev pub overwritten : ℕ
overwritten = 4

-- A call is now made in another order, after other reads, or only under a condition.
abbrev pub call_moved : ℕ
call_moved = 8

-- A value is now read later, in another order, or only under a condition: mind what calls change, and device registers.
abbrev pub read_moved : ℕ
read_moved = 16

-- The value went through a part of a register, or is now computed or compared at another width or sign.
abbrev pub other_width : ℕ
other_width = 32

-- Read as C, the line's text groups otherwise than the joined expression, or writes what was only read, or counts elements for bytes.
abbrev pub other_text : ℕ
other_text = 64

-- A number is large, or not spelt plainly: C may read it, or add it up, otherwise.
abbrev pub odd_number : ℕ
odd_number = 128

-- A stack slot was taken for a register; it is memory, and pointers and calls may reach it.
abbrev pub slot : ℕ
slot = 256

-- The value may be handed over unseen: to a call that does not spell its arguments, or back to the caller (the result, and the registers
-- that calls preserve).
abbrev pub handed_over : ℕ
handed_over = 512

-- ---- sets

-- the kinds that are in one of two sets
infixr 25 ◌∪◌
abbrev pub ◌∪◌ : ℕ → ℕ → ℕ
a ∪ b = bit_or a b

-- every kind of the first is in the second
infix 20 ◌⊆◌
abbrev pub ◌⊆◌ : ℕ → ℕ → Type 0
a ⊆ b = a ∪ b ≡ b

-- a set, if the condition holds
infix 27 ◌given◌
unfoldable pub ◌given◌ : ℕ → Bool → ℕ
s given b = when b then s else 0

-- the kinds that are in one of the sets
unfoldable pub union : List ℕ → ℕ
union [] = 0
union (s ∷ ss) = s ∪ union ss
