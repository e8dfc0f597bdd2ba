-- Transparent and calling lines, by their facts. Assumes nothing.
use Rattle.std.specs.Prelude.{ℕ, Bool, eqb}
use Rattle.reference.specs.Control.{◌and◌}
use Rattle.lines.specs.Lines.{facts_of}
use Rattle.lines.specs.Facts.{bit}

-- whether the fact i of the line l is set
unfoldable pub has_fact : ℕ → ℕ → Bool
has_fact l i = eqb (bit (facts_of l) i) 1

-- whether the facts of the line l say that it lacks the families of number n and control flow
unfoldable pub is_transparent_save_calls : ℕ → ℕ → Bool
is_transparent_save_calls l n = has_fact l n and has_fact l 15

-- whether the facts of the line l say that it lacks the families of number n, control flow and calls
unfoldable pub is_transparent : ℕ → ℕ → Bool
is_transparent l n = is_transparent_save_calls l n and has_fact l 16

-- whether the facts of the line l say that it lacks the families of number n and control flow, and has a call
unfoldable pub is_calling : ℕ → ℕ → Bool
is_calling l n = is_transparent_save_calls l n and has_fact l 17
