-- The lowest and the highest addresses of a table of marks. Assumes nothing.
use Rattle.std.specs.Prelude.{ℕ, List, map}
use Rattle.lines.specs.declared.marks.Marks.{Marks}

abbrev pub lows_of : List Marks → List ℕ
lows_of marks = map (λ (m : Marks). m.low) marks

abbrev pub highs_of : List Marks → List ℕ
highs_of marks = map (λ (m : Marks). m.high) marks
