-- A token's part of a form. Assumes nothing.
use Rattle.std.specs.Prelude.{Bool, [], filter}
use Rattle.reference.specs.Control.{◌and◌, when◌then◌else◌}
use Rattle.reference.specs.Text.{Text, bytes, has, contains}
use Rattle.reference.specs.Listing.{Token, is, Keyword, Punct}
use Rattle.cautions.specs.Forms.{CONTROL}

abbrev pub SIGNS : Text
SIGNS = bytes "{};?"

-- the control word that a token is
unfoldable pub word_of : Token → Text
word_of t = when is Keyword t and has CONTROL t.text then t.text else []

-- the signs of a text, and of a token
unfoldable pub signs_of : Text → Text
signs_of s = filter (λ c. contains SIGNS c) s

unfoldable pub token_signs : Token → Text
token_signs t = when is Punct t then signs_of t.text else []

unfoldable pub has_colon : Token → Bool
has_colon t = is Punct t and contains t.text 58
