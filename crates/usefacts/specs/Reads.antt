-- Reads of memory in a part of a run of tokens, between two texts. Assumes nothing.
use Rattle.std.specs.Prelude.{ℕ, Bool, false, List, [], ◌∷◌, map}
use Rattle.reference.specs.Control.{not, ◌and◌, ◌or◌}
use Rattle.reference.specs.Text.{Text, bytes, starts_with, ends_with}
use Rattle.reference.specs.Listing.{Token, is, Keyword, Symbol}
use Rattle.lines.specs.Texts.{text_of}
use Rattle.lines.specs.declared.texts.Texts.{Texts}

abbrev pub texts_of : Texts → List ℕ → List Text
texts_of t = map (text_of t)

-- one token, between two texts
unfoldable pub reads_here : Text → Token → Text → Bool
reads_here before t after =
    (is Keyword t and starts_with t.text (bytes "*("))
    or (is Symbol t and not (ends_with before (bytes "&")) and not (starts_with after (bytes "(")))

-- the text of the first token, or the one behind all
abbrev pub first_text : List Token → Text → Text
first_text [] after = after
first_text (t ∷ ts) after = t.text

-- the text of the last token, or the one before all
abbrev pub last_text : Text → List Token → Text
last_text before [] = before
last_text before (t ∷ ts) = last_text t.text ts

unfoldable pub reads_between : Text → List Token → Text → Bool
reads_between before [] after = false
reads_between before (t ∷ ts) after = let r = reads_between t.text ts after in reads_here before t (first_text ts after) or r
