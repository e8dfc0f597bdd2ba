-- A listing changed in place: the lines that change are written in the second set, behind the used marks, so that what is read is the
-- first set with what the second has behind the marks. Assumes nothing.
use Rattle.std.specs.Prelude.{ℕ, ◌+◌, ◌-◌, ◌*◌, ◌≤◌, ◌<◌, min, ◌≡◌, List, ◌++◌, length, get_or, take, drop}
use Rattle.std.proofs.Math.Seq.{slice}
use Rattle.reference.specs.Text.{Text}
use Rattle.reference.specs.Listing.{Line, Listing}
use Rattle.reference.specs.Rules.{Rules}
use Rattle.reference.specs.Claim.{sum}
use Rattle.joining.specs.Plan.{map_from, acted_line, act}
use Rattle.lines.specs.Words.{len_of}
use Rattle.lines.specs.Lines.{Reading, first_of, count_of, part_of, listing_read, Listed}
use Rattle.plan.specs.declared.plans.Join.{Join}
use Rattle.lines.specs.declared.texts.Size.{Size}
use Rattle.join.specs.Building.{plan_of}

-- ---- the room that the changed lines take

-- a bound on the room of the tokens of these words: 24 bytes each, and their texts
unfoldable pub words_room : List ℕ → ℕ
words_room ws = sum (λ w. len_of w + 24) ws

-- a bound on the room of the line l with the right side of the line `source` in it
abbrev pub line_need : List ℕ → ℕ → ℕ → ℕ
line_need words source l = words_room (part_of words source) + words_room (part_of words l)

unfoldable pub needs : List ℕ → ℕ → List ℕ → ℕ
needs words source lines = sum (line_need words source) lines

-- the need of the lines of a plan from line k on
abbrev pub need_from : List ℕ → List ℕ → Join → ℕ → ℕ
need_from words lines j k = needs words (get_or lines j.line 0) (slice k (j.last + 1) lines)

-- what is free behind the used mark of a list, below the places that a word can name
unfoldable pub behind : ℕ → ℕ → ℕ
behind length used = min length 65535 - used

-- what is free in a set whose area and whose table of words have these lengths: of a need, each word takes 24 at least
unfoldable pub free : ℕ → ℕ → Size → ℕ
free area tokens at = min (behind area at.text) (24 * behind tokens at.tokens)

-- there is room for the need n behind the used marks
pub record Spare (area : Text) (tokens : List ℕ) (at : Size) (n : ℕ) : Type 0 where
  pub text_fits : at.text + n ≤ length area
  pub text_short : at.text + n < 65536
  pub words_fit : 24 * at.tokens + n ≤ 24 * length tokens
  pub words_short : 24 * at.tokens + n < 1572864

-- each of the first m lines names words among the first n
abbrev pub Within : List ℕ → ℕ → ℕ → Type 0
Within lines m n = (k : ℕ) → k < m → first_of (get_or lines k 0) + count_of (get_or lines k 0) ≤ n

-- ---- the listing

-- the list `used`, which ends at m, and behind it what another has up to n
abbrev pub mixed : List ℕ → ℕ → ℕ → List ℕ → List ℕ
mixed used m n other = used ++ slice m n other

abbrev pub mixed_listing : Text → Text → List ℕ → Size → Text → List ℕ → List ℕ → Size → Reading → Listing
mixed_listing tape old words from area tokens lines at addresses =
    listing_read tape (mixed old from.text at.text area) (mixed words from.tokens at.tokens tokens) addresses lines

-- the first k lines by f, the rest as they are
abbrev pub changed_upto : (ℕ → Line → Line) → Listing → ℕ → Listing
changed_upto f lines k = map_from f 0 (take k lines) ++ drop k lines

-- the first k lines are done
pub record Patching (rules : Rules) (tape old : Text) (words lines : List ℕ) (j : Join) (from : Size) (k : ℕ) (area : Text)
    (tokens lines' : List ℕ) (at : Size) : Type 0 where
  pub as_many : length lines' ≡ length lines
  pub rest_is : drop k lines' ≡ drop k lines
  pub text_from : from.text ≤ at.text
  pub words_from : from.tokens ≤ at.tokens
  pub listed : Listed tape (mixed old from.text at.text area) (mixed words from.tokens at.tokens tokens) lines'
  pub means : (addresses : Reading) → mixed_listing tape old words from area tokens lines' at addresses
      ≡ changed_upto (acted_line rules j.line (plan_of tape old words lines j)) (listing_read tape old words addresses lines) k
  pub text_left : at.text + need_from words lines j k ≤ from.text + need_from words lines j (j.line + 1)
  pub words_left : 24 * at.tokens + need_from words lines j k ≤ 24 * from.tokens + need_from words lines j (j.line + 1)

-- all lines are done, and the line that was joined is gone
pub record Patched (rules : Rules) (tape old : Text) (words lines : List ℕ) (j : Join) (from : Size) (area : Text) (tokens lines' : List ℕ)
    (at : Size) : Type 0 where
  pub lines_fit : at.lines ≤ length lines'
  pub text_from : from.text ≤ at.text
  pub words_from : from.tokens ≤ at.tokens
  pub text_few : at.text ≤ from.text + need_from words lines j (j.line + 1)
  pub words_few : 24 * at.tokens ≤ 24 * from.tokens + need_from words lines j (j.line + 1)
  pub listed : Listed tape (mixed old from.text at.text area) (mixed words from.tokens at.tokens tokens)
      (take at.lines lines')
  pub means : (addresses : Reading) → mixed_listing tape old words from area tokens (take at.lines lines') at addresses
      ≡ act rules (listing_read tape old words addresses lines) j.line (plan_of tape old words lines j)
