-- A span of places: where a table has what is set. Assumes nothing.
use Rattle.std.specs.Prelude.{ℕ, ◌≡◌, ◌≤◌, Bool, true, false, List, get_or, min, max}
use Rattle.flow.specs.declared.reaching.Span.{Span}

-- each place that is set is in the span
abbrev pub Within : Span → List Bool → Type 0
Within span seen = (j : ℕ) → get_or seen j false ≡ true → (span.first ≤ j) × (j ≤ span.last)

-- the span with the place k
abbrev pub widened : Span → ℕ → Span
widened span k = record { first = min span.first k; last = max span.last k }
