-- `tables::loading::load_known` meets its contract: a token that the memo knows passes the questions. Assumes nothing.
use native.Mathlib.Omega.{arith}
use Rattle.tables.proofs.loading.Taking.{known_step}
use Rattle.tables.proofs.loading.load_known.Goals as goal

pub returns : goal.returns
returns c =
    known_step c.requires.0 c.in_ok-w.ensures (omega (arith, c.if-totals-eq0.false)) (omega (arith, c.if-totals-ge1024.false)) (omega (arith, c.if-totals-gt24571.false))
    c.len.ensures c.lengthen.ensures (omega (arith, c.size_of.ensures)) c.count_in.ensures
