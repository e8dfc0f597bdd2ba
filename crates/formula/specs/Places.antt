-- What a place in a line means: the lexemes that are left there. Assumes nothing.
use Rattle.std.specs.Prelude.{◌≡◌, ℕ, ◌<◌, ◌≤◌, List, [], ◌∷◌, ◌++◌, length, drop, ◌==◌, slice_index}
use Rattle.std.specs.Prelude as std
use Rattle.std.proofs.Math.Option.{Option, none, some}
use Rattle.reference.specs.Control.{when◌then◌else◌}
use Rattle.reference.specs.Text.{Text}
use Rattle.reference.specs.Listing.{Token, Punct}
use Rattle.reference.specs.Evaluators as E
use Rattle.reference.specs.Evaluators.{Lexeme, lexemes_of, lexemes, adds, takes}
use Rattle.lines.specs.Words.{kind_of, len_of, tokens_of, Holds}
use Rattle.formula.specs.declared.places.Place.{Place}
use Rattle.formula.specs.declared.places.Sign.{Sign}
use Rattle.formula.specs.declared.places.Sign.TheVariants.{Plus, Minus}
use Rattle.formula.specs.declared.places.Operation.{Operation}

-- without the first b lexemes of the first token
unfoldable pub left_of : ℕ → List Token → List Lexeme
left_of b [] = []
left_of b (t ∷ ts) = drop b (lexemes_of t) ++ lexemes ts

-- from the byte b of the token k on
unfoldable pub left : List Token → ℕ → ℕ → List Lexeme
left ts k b = left_of b (drop k ts)

-- how many lexemes a token is
unfoldable pub size_of : ℕ → ℕ
size_of w = when kind_of w == Punct then len_of w else 1

-- a lexeme of a token, or a place past the last token
abbrev pub Placed : List ℕ → ℕ → ℕ → Type 0
Placed line k b = k < length line → b < size_of (slice_index line k)

-- the end of the line, or a lexeme of a token. In a line that can be read, such a place is known by the lexemes that are left there
-- (`known_by_left`, proofs/Bytes.antt).
unfoldable pub InLine : List ℕ → ℕ → ℕ → Type 0
InLine line k b = Placed line k b × (length line ≤ k → (k ≡ length line) × (b ≡ 0))

-- every word points into its text, and no text is empty
pub record Readable (tape area : Text) (line : List ℕ) : Type 0 where
  pub holds : Holds tape area line
  pub filled : (k : ℕ) → k < length line → 1 ≤ len_of (slice_index line k)

abbrev pub ahead_of : List Token → std.Option Place → Option (List Lexeme)
ahead_of ts (std.Some p) = some (left ts p.token p.byte)
ahead_of ts std.None = none

-- the answer r leads to what the definition o leaves, and stands in the line
pub record Leads (tape area : Text) (line : List ℕ) (o : Option (List Lexeme)) (r : std.Option Place) : Type 0 where
  pub is : ahead_of (tokens_of tape area line) r ≡ o
  pub in_line : (p : Place) → r ≡ std.Some p → InLine line p.token p.byte

abbrev pub operator_of : Sign → E.Operator
operator_of Plus = adds
operator_of Minus = takes

abbrev pub operated_of : List Token → std.Option Operation → Option (E.Operator × List Lexeme)
operated_of ts (std.Some o) = some (operator_of o.sign, left ts o.place.token o.place.byte)
operated_of ts std.None = none

pub record Operates (tape area : Text) (line : List ℕ) (o : Option (E.Operator × List Lexeme)) (r : std.Option Operation) : Type 0 where
  pub is : operated_of (tokens_of tape area line) r ≡ o
  pub in_line : (p : Operation) → r ≡ std.Some p → InLine line p.place.token p.place.byte
