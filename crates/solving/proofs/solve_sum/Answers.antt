-- `solving::solve_sum` meets its contract. Assumes nothing.
use Rattle.std.proofs.Common.{mod-lt, arith}
use Rattle.solving.proofs.Solving.{with_summand, sub_back}
use Rattle.solving.proofs.solve_sum.Goals as goal

pub returns : goal.returns
returns c =
    let a = c.args in
    with_summand a.a a.b a.w _ (mod-lt _ (omega arith)) (sub_back a.w a.b c.ranges.w.fits c.ranges.b.fits) c.solve.result c.solve.ensures
