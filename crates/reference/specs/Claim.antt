-- What demand 3 counts and compares: the tokens, the text, the calls, the pairs of address and indent and the label lines of a listing.
-- Assumes nothing.
use Rattle.std.specs.Prelude.{ℕ, ◌+◌, Bool, false, List, [], ◌∷◌, map, length}
use Rattle.std.proofs.Math.Option.{Option, none, some}
use Rattle.reference.specs.Control.{◌and◌, when◌then◌else◌}
use Rattle.reference.specs.Text.{Text, bytes, ◌≟◌, starts_with}
use Rattle.reference.specs.Listing.{Token, is, Keyword, Symbol, Punct, Line, Listing}
use Rattle.reference.specs.Shapes.{is_label}

module _ {ℓ} {A : Type ℓ} where
  abbrev pub sum : (A → ℕ) → List A → ℕ
  sum f [] = 0
  sum f (x ∷ xs) = f x + sum f xs

abbrev pub one_if : Bool → ℕ
one_if b = when b then 1 else 0

-- ---- tokens and text

abbrev pub token_count : Listing → ℕ
token_count = sum (λ l. length l.tokens)

-- the bytes of a token's text
abbrev pub size : Token → ℕ
size t = length t.text

abbrev pub text_in : List Token → ℕ
text_in = sum size

-- "Text is the bytes of all token texts together."
abbrev pub text : Listing → ℕ
text = sum (λ l. text_in l.tokens)

-- ---- calls

-- "For demand 3 each S mark counts under its S text, and every K beginning `((void` under one name": some text, or none for that one name
abbrev pub Callee : Type 0
Callee = Option Text

-- whether the tokens after a token begin with "P beginning `(`"
unfoldable pub opens : List Token → Bool
opens [] = false
opens (t ∷ ts) = is Punct t and starts_with t.text (bytes "(")

-- Whether the token is a call mark of the callee; `o` says whether the token after it opens a bracket. "Call mark: S before P beginning
-- `(`, or K beginning `((void`"; for demand 3 the K counts "followed or not".
unfoldable pub is_call_mark : Callee → Token → Bool → Bool
is_call_mark none t o = is Keyword t and starts_with t.text (bytes "((void")
is_call_mark (some name) t o = is Symbol t and (t.text ≟ name) and o

unfoldable pub calls_in : Callee → List Token → ℕ
calls_in c [] = 0
calls_in c (t ∷ ts) = one_if (is_call_mark c t (opens ts)) + calls_in c ts

-- how many times a callee is called
abbrev pub calls : Callee → Listing → ℕ
calls c = sum (λ l. calls_in c l.tokens)

-- ---- pairs of address and indent, and labels

-- an address and indent pair
abbrev pub AddressIndent : Type 0
AddressIndent = Option ℕ × ℕ

abbrev pub pair_of : Line → AddressIndent
pair_of l = (l.address, l.indent)

abbrev pub pairs_of : Listing → List AddressIndent
pairs_of = map pair_of

-- "Label lines: the input's lines that are labels, equal ones included, with address, indent and tokens"
unfoldable pub label_lines : Listing → Listing
label_lines [] = []
label_lines (l ∷ ls) = let r = label_lines ls in when is_label l then l ∷ r else r
