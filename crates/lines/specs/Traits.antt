-- The traits of a token: all that the cleaner asks of its kind and its text, a test for each bit of one number. A token's word keeps the
-- number, so that each test is made once. Assumes nothing.
use Rattle.std.specs.Prelude.{ℕ, zero, suc, ◌+◌, ◌*◌, Bool, true, false, List, [], ◌∷◌, map, get_or}
use Rattle.reference.specs.Control.{◌and◌, ◌or◌, when◌then◌else◌}
use Rattle.reference.specs.Text.{Text, bytes, ◌≟◌, starts_with, ends_with}
use Rattle.reference.specs.Listing.{Token, is, Keyword, Punct}
use Rattle.reference.specs.Shapes.{is_kw, has_brace, writes, is_operator}
use Rattle.lines.specs.declared.traits.Kw.{Kw}
use Rattle.lines.specs.declared.traits.Kw.TheVariants.{While, Goto, Return, Do}

-- ---- truths as a number

-- the first of them is the lowest bit
unfoldable pub number : List Bool → ℕ
number [] = 0
number (b ∷ bs) = number bs * 2 + (when b then 1 else 0)

-- one truth, at a place behind others that do not hold
unfoldable pub only : ℕ → Bool → List Bool
only zero b = b ∷ []
only (suc i) b = false ∷ only i b

-- ---- tests, of any kind of token

abbrev pub has_text : Text → Token → Bool
has_text s t = t.text ≟ s

abbrev pub begins : Text → Token → Bool
begins s t = starts_with t.text s

abbrev pub ends : Text → Token → Bool
ends s t = ends_with t.text s

-- a value beside it has a delimiter on that side
unfoldable pub delimits_before : Token → Bool
delimits_before t = ends (bytes "(") t or ends (bytes ", ") t or ends (bytes " = ") t

unfoldable pub delimits_after : Token → Bool
delimits_after t = begins (bytes ")") t or begins (bytes ",") t or begins (bytes ";") t

unfoldable pub is_sign : Token → Bool
is_sign t = has_text (bytes " + ") t or has_text (bytes " - ") t

-- ---- of one kind

abbrev pub keyword_begins : Text → Token → Bool
keyword_begins s t = is Keyword t and starts_with t.text s

abbrev pub punct_begins : Text → Token → Bool
punct_begins s t = is Punct t and starts_with t.text s

-- ---- the traits

-- The first test, which each token passes, tells a number of traits from 0, which stands where none is known. The constants of the code
-- (src/traits.rt) are the places in this row.
abbrev pub TRAITS : List (Token → Bool)
TRAITS =
    (λ t. true)
    ∷ has_text (bytes ":")
    ∷ begins (bytes "var_")
    ∷ ends (bytes "&")
    ∷ ends (bytes ";")
    ∷ delimits_before
    ∷ delimits_after
    ∷ is_sign
    ∷ has_text (bytes " + ")
    ∷ is_kw (bytes "while")
    ∷ is_kw (bytes "goto")
    ∷ is_kw (bytes "return")
    ∷ is_kw (bytes "do")
    ∷ keyword_begins (bytes "((void")
    ∷ keyword_begins (bytes "*(")
    ∷ has_brace
    ∷ punct_begins (bytes "(")
    ∷ punct_begins (bytes " = ")
    ∷ punct_begins (bytes " ==")
    ∷ writes
    ∷ is_operator
    ∷ []

-- what a token answers to a row of tests
abbrev pub answers : List (Token → Bool) → Token → List Bool
answers tests t = map (λ (p : Token → Bool). p t) tests

unfoldable pub traits : Token → ℕ
traits t = number (answers TRAITS t)

-- the test at a place of the row
abbrev pub trait : ℕ → Token → Bool
trait i = get_or TRAITS i (λ t. false)

-- the text of a Keyword that the cleaner asks for
abbrev pub kw_text : Kw → Text
kw_text While = bytes "while"
kw_text Goto = bytes "goto"
kw_text Return = bytes "return"
kw_text Do = bytes "do"

abbrev pub kw_place : Kw → ℕ
kw_place While = 9
kw_place Goto = 10
kw_place Return = 11
kw_place Do = 12
