-- The definitions over texts and tables of words, over a formula as the code lends it. Assumes nothing.
use Rattle.std.specs.Prelude.{ℕ, ◌≤◌, List, length}
use Rattle.reference.specs.Listing as L
use Rattle.reference.specs.Listing.{Token}
use Rattle.lines.specs.Lines as Lines
use Rattle.lines.specs.Lines.{Reading}
use Rattle.lines.specs.Texts as Lent
use Rattle.lines.specs.declared.texts.Listing.{Listing}
use Rattle.formula.specs.declared.evaluators.Pair.{Pair}
use Rattle.start.specs.Reckoning as Reckoning

abbrev pub token_in : Listing → ℕ → Token
token_in f w = Lent.token_of f.texts w

abbrev pub Points : Listing → ℕ → Type 0
Points f w = Lent.Points f.texts w

abbrev pub Holds : Listing → Type 0
Holds f = Lent.Holds f.texts f.tokens.now

-- the tokens of all lines, and those of a line
abbrev pub tokens_in : Listing → List Token
tokens_in f = Lent.tokens_of f.texts f.tokens.now

abbrev pub line_in : Listing → ℕ → List Token
line_in f l = Lent.tokens_of f.texts (Lines.part_of f.tokens.now l)

abbrev pub listing_in : Listing → Reading → L.Listing
listing_in f reading = Lines.listing_read f.texts.tape.now f.texts.area.now f.tokens.now reading f.lines.now

abbrev pub Begun : Listing → ℕ → Type 0
Begun f l = Reckoning.Begun f.texts.tape.now f.texts.area.now f.tokens.now l

abbrev pub Profiled : Listing → Type 0
Profiled f = Reckoning.Profiled f.texts.tape.now f.texts.area.now f.tokens.now f.lines.now

abbrev pub IsPriced : Listing → List Pair → Type 0
IsPriced f = Reckoning.IsPriced (tokens_in f)

-- the table has room for a pair of each token
abbrev pub HasRoom : Listing → List Pair → Type 0
HasRoom f values = length f.tokens.now ≤ length values
