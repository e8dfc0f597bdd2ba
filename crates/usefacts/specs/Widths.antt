-- The parts of a token's width. Assumes nothing.
use Rattle.std.specs.Prelude.{ℕ, Bool, false}
use Rattle.reference.specs.Control.{◌or◌, when◌then◌else◌, let_some◌else◌then◌}
use Rattle.reference.specs.Text.{Text, bytes, ends_with}
use Rattle.reference.specs.Listing.{Token, is, Number, Keyword, Symbol, Address, Punct}
use Rattle.reference.specs.Names.{fam_of}
use Rattle.cautions.specs.Values.{is_cell, has_no_width, name_width, cast_width, token_width}

-- it has none
unfoldable pub is_unsized : Token → Bool
is_unsized t = is Number t or is Punct t or has_no_width t

-- it is as wide as an address
unfoldable pub is_addressed : Text → Token → Bool
is_addressed before t = is Address t or is_cell t or ends_with before (bytes "&")

-- that of any other token
unfoldable pub own_width : ℕ → Token → ℕ
own_width convention t =
    when is Symbol t then name_width convention t.text
    else when is Keyword t then cast_width t.text
    else let_some (fam_of t) else 0 then λ f. f.width

-- it has one, which passes the test
unfoldable pub passes : (ℕ → Bool) → ℕ → Text → Token → Bool
passes p convention before t = let_some (token_width convention before t) else false then p
