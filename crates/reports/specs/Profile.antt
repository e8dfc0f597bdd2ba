-- The words for what in a line breaks the profile of straight pieces (14), and for the name that is no register (16). Which of the
-- profile's tests it is stands in crate formula (specs/Breaches.antt), and which name in crate start (specs/Unknown.antt). Assumes nothing.
use Rattle.std.specs.Prelude.{ℕ, List, [], ◌∷◌, ◌++◌, Option, Some, None}
use Rattle.reference.specs.Text.{Text, bytes}
use Rattle.reference.specs.Listing.{Listing}
use Rattle.reference.specs.Questions.{Answer, Refused, Passed, read}
use Rattle.formula.specs.Breaches.{breach_at}
use Rattle.formula.specs.declared.breaches.Breach.{Breach}
use Rattle.formula.specs.declared.breaches.Breach.TheVariants as breach
use Rattle.reports.specs.Reports.{head, meaning}

-- ---- 14

abbrev pub breach_words : Breach → Text
breach_words breach.NoLine = bytes "there is no line"
breach_words breach.Indent = bytes "the indent of this line is not the first line's"
breach_words breach.NoToken = bytes "the line has no token"
breach_words breach.NoReturn = bytes "the last line does not begin with the Keyword return"
breach_words breach.NoTarget = bytes "the line does not assign to a 64-bit register (as rax, r8)"
breach_words breach.NarrowRegister = bytes "a Register in this line is no 64-bit register (as rax, r8)"
breach_words breach.UntidyNumber = bytes "a Number in this line has a plus, a second minus or a zero in front"
breach_words breach.UnreadNumber = bytes "a Number in this line is none that the profile reads"
breach_words breach.ForeignToken = bytes "a token in this line is no Register, Number or Punct"
breach_words breach.NoBlank = bytes "behind the return of this line stands no blank"
breach_words breach.NoEquals = bytes "behind the register of this line stands no = between blanks"
breach_words breach.Brackets = bytes "a bracket in this line is not closed, or not opened"
breach_words breach.Signs = bytes "this line's value is not terms joined by + or - between blanks, and then a semicolon"
breach_words breach.TwoPuncts = bytes "two Puncts stand side by side in this line"

-- the general meaning of 14 where the line is in the profile, or the tape is not accepted: of such 14 is never told
abbrev pub words_of_breach : Option Breach → Text
words_of_breach (Some b) = breach_words b
words_of_breach None = meaning 14

abbrev pub broken_in : ℕ → Answer Listing → Text
broken_in n (Passed lines) = words_of_breach (breach_at lines n)
broken_in n (Refused number place) = meaning 14

-- line n of a tape's listing, counted from 0
unfoldable pub broken : List ℕ → ℕ → Text
broken tape n = broken_in n (read tape)

-- ---- 16

-- refused 16 at 0: NAME is no 64-bit register (as rax, r8)
unfoldable pub no_register : Text → Text
no_register name = head 16 0 ++ bytes ": " ++ name ++ bytes " is no 64-bit register (as rax, r8)" ++ (10 ∷ [])
