-- The marks of a listing's lines, in two tables by the number of the input line (M-105), and what attempts leave of them. Assumes nothing.
use Rattle.std.specs.Prelude.{ℕ, ◌<◌, ◌≡◌, List, map, length}
use Rattle.reference.specs.Run.{Attempt}
use Rattle.reference.specs.Marks.{carry}
use Rattle.reference.proofs.Limits.{All}
use Rattle.joining.specs.Carried.{pair_at, marks_by, Kept, Rising}
use Rattle.lines.specs.Lines.{origin_of}
use Rattle.join.specs.Contents.{Contents, used_lines}

-- the two tables have a pair for the input line o
pub record Held (lows highs : List ℕ) (o : ℕ) : Type 0 where
  pub low_inside : o < length lows
  pub high_inside : o < length highs
  pub kept : Kept (pair_at lows highs o)

-- the two tables have a pair for each of these input lines, no two of which are the same
pub record Marked (origins lows highs : List ℕ) : Type 0 where
  pub rising : Rising 0 origins
  pub each : All (Held lows highs) origins

-- Tables that have the lines' marks have them after the attempts too: those that the attempts carry on.
abbrev pub Carries : List Attempt → Contents → Contents → Type 0
Carries attempts s s' =
    Marked (map origin_of (used_lines s)) s.lows s.highs
    → Marked (map origin_of (used_lines s')) s'.lows s'.highs
    × (marks_by origin_of s'.lows s'.highs (used_lines s') ≡ carry attempts (marks_by origin_of s.lows s.highs (used_lines s)))
