-- How the examples are written: a line as text, its tokens split at registers, numbers and names (document 01's sheet of examples), a
-- space in front for each step of indent. A minus directly before a digit belongs to the number. A name that begins with `_` is a Keyword,
-- as the listing generator writes operations that C has no sign for (`__pop`, `_InterlockedExchange`). Where the kinds matter, or one token
-- is more than such a word, a line is written token by token. Assumes nothing.
use Rattle.std.specs.Prelude.{ℕ, suc, ◌≡◌, Bool, true, false, List, [], ◌∷◌, map, eqb, leb, get_or}
use Prim.Native.String.{String}
use Rattle.std.proofs.Math.Option.{none}
use Rattle.reference.specs.Control.{not, ◌and◌, ◌or◌, when◌then◌else◌}
use Rattle.reference.specs.Lists.{is_some}
use Rattle.reference.specs.Text.{Text, bytes, has}
use Rattle.reference.specs.Listing.{Token, token, Plain, Register, Number, Keyword, Symbol, Punct, Line, Listing}
use Rattle.reference.specs.Names.{family, is_digit}
use Rattle.reference.specs.Rules.{Rules}
use Rattle.reference.specs.Run.{finished}
use Rattle.reference.proofs.Opened.{opened}
use Rattle.books.specs.Tables.{words}

-- whether a text begins with a byte of a word: a letter, a digit, `_` (95), or a minus (45) before a digit
unfoldable pub is_word : Text → Bool
is_word s =
    let c : ℕ = get_or s 0 0 in
    (leb 97 c and leb c 122) or (leb 65 c and leb c 90) or is_digit c or eqb c 95 or (eqb c 45 and is_digit (get_or s 1 0))

-- c in front of what follows it: in the same run if both are of a word, or neither is
unfoldable pub run_on : ℕ → Bool → List Text → List Text
run_on c w [] = (c ∷ []) ∷ []
run_on c w (r ∷ rs) = when (w and is_word r) or (not w and not (is_word r)) then (c ∷ r) ∷ rs else (c ∷ []) ∷ r ∷ rs

unfoldable pub runs : Text → List Text
runs [] = []
runs (c ∷ cs) = run_on c (is_word (c ∷ cs)) (runs cs)

unfoldable pub kind_of : Text → ℕ
kind_of w =
    when not (is_word w) then Punct
    else when is_digit (get_or w 0 0) or eqb (get_or w 0 0) 45 then Number
    else when is_some (family w) then Register
    else when has (words "do while for if else goto return break continue switch case") w or eqb (get_or w 0 0) 95 then Keyword
    else Symbol

unfoldable pub tokens_of : Text → List Token
tokens_of s = map (λ w. token (kind_of w) w) (runs s)

unfoldable pub line_at : ℕ → Text → Line
line_at indent [] = record { address = none; indent = indent; tokens = [] }
line_at indent (c ∷ cs) =
    let deeper = line_at (suc indent) cs in
    when eqb c 32 then deeper else record { address = none; indent = indent; tokens = tokens_of (c ∷ cs) }

-- a line as text
abbrev pub said : String → Line
said l = line_at 0 (bytes l)

unfoldable pub listing : List String → Listing
listing ls = map said ls

-- ---- a line token by token, without indent: T is the kind Text

abbrev pub T : String → Token
T s = token Plain (bytes s)

abbrev pub R : String → Token
R s = token Register (bytes s)

abbrev pub N : String → Token
N s = token Number (bytes s)

abbrev pub K : String → Token
K s = token Keyword (bytes s)

abbrev pub S : String → Token
S s = token Symbol (bytes s)

abbrev pub P : String → Token
P s = token Punct (bytes s)

abbrev pub line : List Token → Line
line ts = record { address = none; indent = 0; tokens = ts }

-- ---- what a listing is cleaned to

abbrev pub convention_1 : Rules
convention_1 = record { convention = 1; settle = false; edition = 0; parts = false; profile = false }

-- convention 1 with the parts setting (M-104)
abbrev pub convention_1_parts : Rules
convention_1_parts = record { convention = 1; settle = false; edition = 0; parts = true; profile = false }

abbrev pub convention_0 : Rules
convention_0 = record { convention = 0; settle = false; edition = 0; parts = false; profile = false }

-- the finished listing, under convention 1
abbrev pub gives : List String → List String → Type 0
gives before after = finished convention_1 (listing before) ≡ listing after

-- the same of lines, where the kinds matter
abbrev pub turns : Listing → Listing → Type 0
turns before after = finished convention_1 before ≡ after

-- the finished listing, under convention 0: 32-bit code
abbrev pub gives_32_bit : List String → List String → Type 0
gives_32_bit before after = finished convention_0 (listing before) ≡ listing after

-- the finished listing, under convention 1 and the parts setting
abbrev pub gives_parts : List String → List String → Type 0
gives_parts before after = finished convention_1_parts (listing before) ≡ listing after

-- opens all of the above, and the reference
unfoldable pub spelled_out : Unit {0}
unfolding opened is_word run_on runs kind_of tokens_of line_at listing
spelled_out = tt
