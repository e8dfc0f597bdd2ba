-- `tables::loading::spread` meets its contract. Assumes nothing.
use native.Mathlib.Omega.{arith}
use borrow.Author.Rules.{rules}
use Rattle.tables.proofs.loading.Marks.{marking_more}
use Rattle.tables.proofs.loading.spread.Goals as goal

pub loop-k-preserved : goal.loop-k-preserved
loop-k-preserved c = (search rules, marking_more c.loop-k.marks (omega (arith, c.requires.0)) c.loop-k.invariant.1)
