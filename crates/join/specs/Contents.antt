-- What stands in the tables in which a listing is cleaned, as one value, and what it means. Assumes nothing.
use Rattle.std.specs.Prelude.{List, ℕ}
use Rattle.reference.specs.Text.{Text}
use Rattle.reference.specs.Listing.{Listing}
use Rattle.lines.specs.Lines.{Reading}
use Rattle.lines.specs.Marks.{lows_of, highs_of}
use Rattle.lines.specs.declared.texts.Size.{Size}
use Rattle.join.specs.Current as current
use Rattle.join.specs.declared.workspace.Workspace.{Workspace}

-- the tape; the texts, token words and line words of the first set, and how much of each is in use; and the lowest and the highest
-- addresses, by the number of the input line
pub record Contents : Type 0 where
  pub tape : Text
  pub area : Text
  pub tokens : List ℕ
  pub lines : List ℕ
  pub size : Size
  pub lows : List ℕ
  pub highs : List ℕ

-- those of a workspace
abbrev pub contents : Text → Workspace → Size → Contents
contents tape w at =
    record {
      tape = tape;
      area = w.area.now;
      tokens = w.tokens.now;
      lines = w.lines.now;
      size = at;
      lows = lows_of w.marks.now;
      highs = highs_of w.marks.now;
    }

-- ---- as in Current: the same words, the same meaning

abbrev pub used_lines : Contents → List ℕ
used_lines s = current.used_lines s.lines s.size

abbrev pub listing_now : Contents → Reading → Listing
listing_now s = current.listing_now s.tape s.area s.tokens s.lines s.size

abbrev pub bare_now : Contents → Listing
bare_now s = current.bare_now s.tape s.area s.tokens s.lines s.size

abbrev pub Current : Contents → Type 0
Current s = current.Current s.tape s.area s.tokens s.lines s.size
