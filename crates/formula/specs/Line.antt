-- The definitions over a tape, an area and words, over a line as the code lends it: each name means what the definition of that name says.
-- Assumes nothing.
use Rattle.std.specs.Prelude.{ℕ, Bool, List}
use Rattle.std.specs.Prelude as std
use Rattle.std.proofs.Math.Option.{Option}
use Rattle.reference.specs.Text.{Text}
use Rattle.reference.specs.Listing.{Token}
use Rattle.reference.specs.Evaluators.{Lexeme, Operator}
use Rattle.lines.specs.Words as Words
use Rattle.lines.specs.declared.texts.Texts.{Texts}
use Rattle.formula.specs.Places as Places
use Rattle.formula.specs.Terms as Terms
use Rattle.formula.specs.Values as Values
use Rattle.formula.specs.declared.line.Line.{Line}
use Rattle.formula.specs.declared.places.Place.{Place}
use Rattle.formula.specs.declared.places.Operation.{Operation}
use Rattle.formula.specs.declared.evaluators.Pair.{Pair}

-- words whose texts stand in `texts`
abbrev pub ReadableIn : Texts → List ℕ → Type 0
ReadableIn t words = Places.Readable t.tape.now t.area.now words

-- ---- a line

abbrev pub tokens_of : Line → List Token
tokens_of l = Words.tokens_of l.texts.tape.now l.texts.area.now l.words.now

abbrev pub Holds : Line → Type 0
Holds l = Words.Holds l.texts.tape.now l.texts.area.now l.words.now

abbrev pub Readable : Line → Type 0
Readable l = ReadableIn l.texts l.words.now

abbrev pub has_junk : Line → Bool
has_junk l = Terms.has_junk l.texts.tape.now l.texts.area.now l.words.now

-- ---- a place in it

abbrev pub Placed : Line → Place → Type 0
Placed l p = Places.Placed l.words.now p.token p.byte

abbrev pub InLine : Line → Place → Type 0
InLine l p = Places.InLine l.words.now p.token p.byte

abbrev pub left : Line → Place → List Lexeme
left l p = Places.left (tokens_of l) p.token p.byte

abbrev pub Leads : Line → Option (List Lexeme) → std.Option Place → Type 0
Leads l = Places.Leads l.texts.tape.now l.texts.area.now l.words.now

abbrev pub Operates : Line → Option (Operator × List Lexeme) → std.Option Operation → Type 0
Operates l = Places.Operates l.texts.tape.now l.texts.area.now l.words.now

-- ---- what stands at a place is worth

abbrev pub Consistent : Line → List Pair → Type 0
Consistent l = Values.Consistent (tokens_of l)

abbrev pub Term : Line → List Pair → Place → Values.Worth → Type 0
Term l values p = Values.Term l.texts.tape.now l.texts.area.now l.words.now values p.token p.byte

abbrev pub Expression : Line → List Pair → Place → Values.Worth → Type 0
Expression l values p = Values.Expression l.texts.tape.now l.texts.area.now l.words.now values p.token p.byte

abbrev pub Evaluates : Line → List Pair → Text → std.Option Pair → Type 0
Evaluates l = Values.Evaluates l.texts.tape.now l.texts.area.now l.words.now
