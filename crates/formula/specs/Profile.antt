-- What a loaded listing must be for its profile to be asked: it is loaded from the tape, and no text is empty. Assumes nothing.
use Rattle.std.specs.Prelude.{ℕ, ◌<◌, List, length, slice_index}
use Rattle.reference.specs.Text.{Text}
use Rattle.lines.specs.Lines.{part_of, Listed}
use Rattle.formula.specs.Places.{Readable}

-- each line can be read, and its texts stand in a tape and an area
pub record FilledIn (tape area : Text) (tokens lines : List ℕ) : Type 0 where
  pub listed : Listed tape area tokens lines
  pub readable : (k : ℕ) → k < length lines → Readable tape area (part_of tokens (slice_index lines k))

-- all texts stand in the tape
abbrev pub Filled : Text → List ℕ → List ℕ → Type 0
Filled tape = FilledIn tape tape
