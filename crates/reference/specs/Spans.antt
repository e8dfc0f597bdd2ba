-- The marks of a line: "the lowest and highest address of itself and of every line joined into it" (M-105), or none. Assumes nothing.
use Rattle.std.specs.Prelude.{ℕ, min, max, List, [], ◌∷◌}
use Rattle.std.proofs.Math.Option.{Option, none, some}

pub record Span : Type 0 where
  pub lowest : ℕ
  pub highest : ℕ

abbrev pub Marks : Type 0
Marks = Option Span

-- the marks of one address
abbrev pub point : ℕ → Marks
point a = some (record { lowest = a; highest = a })

-- the marks of what two marks are of
unfoldable pub hull : Marks → Marks → Marks
hull none n = n
hull (some s) none = some s
hull (some s) (some t) = some (record { lowest = min s.lowest t.lowest; highest = max s.highest t.highest })

-- the lowest and the highest of some addresses, if there is any
unfoldable pub span_of : List ℕ → Marks
span_of [] = none
span_of (a ∷ more) = hull (point a) (span_of more)
