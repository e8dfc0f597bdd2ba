-- What the loop of `tables::writing::gather` keeps true: the first k records are in their places.
use mathlib.Core.Path.{◌≡◌}
use Rattle.lines.specs.Marks.{highs_of, lows_of}
use Rattle.tables.proofs.writing.Gathering.{gathered}
use Rattle.tables.proofs.writing.gather.Given as goal

abbrev pub invariant-loop-k : goal.invariant-loop-k
invariant-loop-k l = l.records ≡ gathered l.addresses (lows_of l.marks) (highs_of l.marks) l.lines l.initial.records l.k
