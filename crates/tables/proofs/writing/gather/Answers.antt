-- `tables::writing::gather` meets its contract. Assumes nothing.
use Rattle.lines.specs.Marks.{highs_of, lows_of}
use Rattle.tables.proofs.writing.Gathering.{gathered_more}
use Rattle.tables.proofs.writing.gather.Goals as goal

pub loop-k-preserved : goal.loop-k-preserved
loop-k-preserved c = let a = c.args in
    rw (c.store_line.ensures, c.loop-k.invariant) (gathered_more a.addresses.now (lows_of a.marks.now) (highs_of a.marks.now) a.lines.now a.records.now c.requires.0
    c.loop-k.k c.loop-k-test.true c.record_of.ensures)
