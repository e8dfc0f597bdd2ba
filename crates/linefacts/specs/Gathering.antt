-- Bits of what there is, and lines with facts. Assumes nothing.
use Rattle.std.specs.Prelude.{ℕ, ◌%◌, ◌<◌, ◌≡◌, Bool, true, false, List, eqb, length, get_or}
use Rattle.reference.specs.Control.{when◌then◌else◌}
use Rattle.reference.specs.Text.{Text}
use Rattle.reference.specs.Listing.{Token, is, Symbol}
use Rattle.lines.specs.Lines.{Reading, line_read, first_of, count_of, Lined}
use Rattle.lines.specs.Facts.{bit, concerns}

-- what bit i of a token is about: what the fact i is, and at 16 the Symbols
unfoldable pub seen_by : ℕ → Token → Bool
seen_by i t = when eqb i 16 then is Symbol t else concerns i t

-- a bit of m that is not set tells that the test by its number fails
pub record Bits (m : ℕ) (test : ℕ → Bool) : Type 0 where
  pub small : m < 131072
  pub fails : (i : ℕ) → i < 17 → bit m i ≡ 0 → test i ≡ false

-- the facts of whether a line calls, at the bits 16 and 17, are true
pub record CallFacts (m : ℕ) (calls : Bool) : Type 0 where
  pub small : m < 262144
  pub above : m % 65536 ≡ 0
  pub no_call : bit m 16 ≡ 1 → calls ≡ false
  pub calling : bit m 17 ≡ 1 → calls ≡ true

-- r is the line l with facts, which are true
pub record Noted (tape area : Text) (tokens : List ℕ) (l r : ℕ) : Type 0 where
  pub first_is : first_of r ≡ first_of l
  pub count_is : count_of r ≡ count_of l
  pub means : (addresses : Reading) → line_read tape area tokens addresses r ≡ line_read tape area tokens addresses l
  pub lined : Lined tape area tokens r

-- each line of `after` is the line of `lines` at the same index with facts, which are true
pub record AllNoted (tape area : Text) (tokens lines after : List ℕ) : Type 0 where
  pub long : length after ≡ length lines
  pub at : (k : ℕ) → k < length lines → Noted tape area tokens (get_or lines k 0) (get_or after k 0)
