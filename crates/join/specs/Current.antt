-- The listing that a call works on: it stands in the first set, as far as its size says. Assumes nothing.
use Rattle.std.specs.Prelude.{ℕ, ◌≤◌, List, length, take}
use Rattle.reference.specs.Text.{Text}
use Rattle.reference.specs.Listing.{Listing}
use Rattle.lines.specs.Lines.{Reading, listing_read, bare_listing, Listed}
use Rattle.build.specs.State.{used}
use Rattle.build.specs.Added.{used_words}
use Rattle.lines.specs.declared.texts.Size.{Size}

-- the lines in use
abbrev pub used_lines : List ℕ → Size → List ℕ
used_lines lines at = take at.lines lines

-- what the set means, with what is read as an address
abbrev pub listing_now : Text → Text → List ℕ → List ℕ → Size → Reading → Listing
listing_now tape area tokens lines at addresses =
    listing_read tape (used area at) (used_words tokens at) addresses (used_lines lines at)

abbrev pub bare_now : Text → Text → List ℕ → List ℕ → Size → Listing
bare_now tape area tokens lines at = bare_listing tape (used area at) (used_words tokens at) (used_lines lines at)

-- the listing can be read
pub record Current (tape area : Text) (tokens lines : List ℕ) (at : Size) : Type 0 where
  pub text_fits : at.text ≤ length area
  pub words_fit : at.tokens ≤ length tokens
  pub lines_fit : at.lines ≤ length lines
  pub listed : Listed tape (used area at) (used_words tokens at) (used_lines lines at)

-- the areas and the token tables are large enough for every listing that keeps the limits
pub record Lent (area : Text) (tokens : List ℕ) (area2 : Text) (tokens2 : List ℕ) : Type 0 where
  pub first_text : 49152 ≤ length area
  pub first_words : 1024 ≤ length tokens
  pub second_text : 49152 ≤ length area2
  pub second_words : 1024 ≤ length tokens2
