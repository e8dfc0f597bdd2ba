-- The tests of a Punct's text that makes its token strange. Assumes nothing.
use Rattle.std.specs.Prelude.{ℕ, Bool, List, eqb, ltb}
use Rattle.reference.specs.Control.{not, ◌and◌, ◌or◌}
use Rattle.reference.specs.Text.{Text, bytes, contains}
use Rattle.reference.specs.Listing.{Token}
use Rattle.reference.specs.Claim.{sum}
use Rattle.cautions.specs.Texts.{holds, star_after, marks, marks_after, outside, frame}

-- the byte c, between p and n, is a `*` that has no space on one of its sides
unfoldable pub star_at : ℕ → ℕ → ℕ → Bool
star_at p c n = eqb c 42 and not (eqb p 32 and eqb n 32)

-- `&`, `|` or `*`: each text that is odd has one of them
unfoldable pub is_odd_byte : ℕ → Bool
is_odd_byte c = eqb c 38 or eqb c 124 or eqb c 42

unfoldable pub is_odd_text : Text → Bool
is_odd_text s = holds (bytes "&&") s or holds (bytes "||") s or star_after 0 s

-- more than one change, one inside brackets, or a comma (44) outside of them
unfoldable pub changes_oddly : List Token → Bool
changes_oddly ts =
    let top : Text = outside 0 (frame ts) in
    ltb 1 (sum marks ts) or ltb (marks_after 0 top) (sum marks ts) or contains top 44
