-- The definitions over a tape and an area, over texts and listings as the code lends them: each name means what the definition of that
-- name says. Assumes nothing.
use Rattle.std.specs.Prelude.{ℕ, List, get_or}
use Rattle.reference.specs.Text.{Text}
use Rattle.reference.specs.Listing.{Token, Line, Listing}
use Rattle.lines.specs.Words as Words
use Rattle.lines.specs.Lines as Lines
use Rattle.lines.specs.Fams as Fams
use Rattle.lines.specs.declared.texts.Texts.{Texts}
use Rattle.lines.specs.declared.texts.Listing as held

-- ---- where the texts of tokens stand

abbrev pub text_of : Texts → ℕ → Text
text_of t w = Words.text_of t.tape.now t.area.now w

abbrev pub token_of : Texts → ℕ → Token
token_of t w = Words.token_of t.tape.now t.area.now w

abbrev pub tokens_of : Texts → List ℕ → List Token
tokens_of t ws = Words.tokens_of t.tape.now t.area.now ws

abbrev pub Points : Texts → ℕ → Type 0
Points t w = Words.Points t.tape.now t.area.now w

abbrev pub Holds : Texts → List ℕ → Type 0
Holds t ws = Words.Holds t.tape.now t.area.now ws

abbrev pub bare_in : Texts → List ℕ → ℕ → Line
bare_in t tokens l = Lines.bare_in t.tape.now t.area.now tokens l

abbrev pub Lined : Texts → List ℕ → ℕ → Type 0
Lined t tokens l = Lines.Lined t.tape.now t.area.now tokens l

abbrev pub fam_text : Texts → Fams.Fam → Text
fam_text t f = Fams.fam_text t.tape.now t.area.now f

abbrev pub Known : Texts → Fams.Fam → Type 0
Known t f = Fams.Known t.tape.now t.area.now f

-- ---- a listing as it stands in the tables

abbrev pub bare_listing : held.Listing → Listing
bare_listing g = Lines.bare_listing g.texts.tape.now g.texts.area.now g.tokens.now g.lines.now

abbrev pub Listed : held.Listing → Type 0
Listed g = Lines.Listed g.texts.tape.now g.texts.area.now g.tokens.now g.lines.now

-- the words of line i
abbrev pub words_at : held.Listing → ℕ → List ℕ
words_at g i = Lines.part_of g.tokens.now (get_or g.lines.now i 0)
