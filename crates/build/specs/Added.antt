-- A line at the end of a set: what it means, and what is as it was. Assumes nothing.
use Rattle.std.specs.Prelude.{ℕ, ◌+◌, ◌≤◌, ◌<◌, ◌≡◌, List, length, take}
use Rattle.reference.specs.Text.{Text}
use Rattle.reference.specs.Listing.{Token, Line}
use Rattle.reference.specs.Join.{rewrite_use}
use Rattle.reference.specs.Claim.{sum, text_in}
use Rattle.joining.specs.Limits.{room, over}
use Rattle.lines.specs.Words.{tokens_of}
use Rattle.lines.specs.Fams.{fam_text}
use Rattle.lines.specs.Lines.{Reading, first_of, count_of, part_of, line_read, Lined}
use Rattle.lines.specs.declared.texts.Size.{Size}
use Rattle.build.specs.declared.merge.Substitution.{Substitution}
use Rattle.build.specs.State.{used, Room, Fresh}
use Rattle.build.specs.Substitution.{right_of, substituted, Substitutes}

-- the words in use
abbrev pub used_words : List ℕ → Size → List ℕ
used_words tokens at = take at.tokens tokens

-- The line that was appended, whose word is w, means `line`, whatever the addresses are; it takes at most n bytes and k words behind those
-- that were in use, and points into no other text of the area than its own. What was in use is as it was.
pub record Added (tape area : Text) (tokens : List ℕ) (at : Size) (line : Reading → Line) (n k : ℕ) (area' : Text) (tokens' : List ℕ)
    (at' : Size) (w : ℕ) : Type 0 where
  pub lined : Lined tape (used area' at') (used_words tokens' at') w
  pub line_is : (addresses : Reading) → line_read tape (used area' at') (used_words tokens' at') addresses w
      ≡ line addresses
  pub first_is : first_of w ≡ at.tokens
  pub end_is : at.tokens + count_of w ≡ at'.tokens
  pub fresh : Fresh at.text (part_of (used_words tokens' at') w)
  pub lines_are : at'.lines ≡ at.lines
  pub words_below : used_words tokens' at ≡ used_words tokens at
  pub text_below : used area' at ≡ used area at
  pub text_grows : at.text ≤ at'.text
  pub text_most : at'.text ≤ at.text + n
  pub words_most : at'.tokens ≤ at.tokens + k

-- ---- a line kept

-- the line l of the old set can be appended as it is
pub record Keepable (tape old : Text) (words : List ℕ) (l : ℕ) (area : Text) (tokens : List ℕ) (at : Size) : Type 0 where
  pub lined : Lined tape old words l
  pub has_room : Room area tokens at (text_in (tokens_of tape old (part_of words l))) (count_of l)
  pub first_fits : at.tokens < 65536

-- the line l of the old set was appended as it is, and means what it meant
abbrev pub Kept : Text → Text → List ℕ → ℕ → Text → List ℕ → Size → Text → List ℕ → Size → ℕ → Type 0
Kept tape old words l area tokens at =
    Added tape area tokens at (λ addresses. line_read tape old words addresses l) (text_in (tokens_of tape old (part_of words l)))
    (count_of l)

-- ---- a line rewritten

-- the tokens that a rewritten line is made of, before they are merged
abbrev pub unmerged : Text → Text → List ℕ → ℕ → Substitution → ℕ → List Token
unmerged tape old words source j l = substituted tape old (part_of words source) j (part_of words l)

-- the line l of the old set can be rewritten with the right side of the line `source`
pub record Rewritable (tape old : Text) (words : List ℕ) (source : ℕ) (j : Substitution) (l : ℕ) (area : Text) (tokens : List ℕ) (at : Size)
    : Type 0 where
  pub source_lined : Lined tape old words source
  pub substitutes : Substitutes tape old (part_of words source) j
  pub lined : Lined tape old words l
  pub numbers_short : sum over (unmerged tape old words source j l) ≡ 0
  pub has_room : Room area tokens at (sum room (unmerged tape old words source j l)) (length (unmerged tape old words source j l))
  pub first_fits : at.tokens < 65536
  pub few : length (unmerged tape old words source j l) < 2048

-- the line l of the old set was appended, and means what `rewrite_use` makes of it
abbrev pub Rewritten : ℕ → Text → Text → List ℕ → ℕ → Substitution → ℕ → Text → List ℕ → Size → Text → List ℕ → Size → ℕ → Type 0
Rewritten edition tape old words source j l area tokens at =
    Added tape area tokens at
    (λ addresses. rewrite_use edition (fam_text tape old j.family) (right_of tape old (part_of words source) j)
    (line_read tape old words addresses l))
    (sum room (unmerged tape old words source j l)) (length (unmerged tape old words source j l))
