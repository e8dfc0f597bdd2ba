-- What the loop of `tables::loading::spread` keeps true: the first k places of the tables hold the first k records.
use Rattle.lines.specs.Marks.{highs_of, lows_of}
use Rattle.tables.specs.Records.{Holding, Marking}
use Rattle.tables.proofs.loading.spread.Given as goal

abbrev pub invariant-loop-k : goal.invariant-loop-k
invariant-loop-k l = Holding l.records l.k l.lines l.addresses × Marking l.records l.k (lows_of l.marks) (highs_of l.marks)
