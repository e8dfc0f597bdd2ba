-- `flow::reaching::count_set` meets its contract. Assumes nothing.
use Rattle.flow.proofs.Walking.{counted_more, counted_end, byte_one}
use native.Mathlib.Omega.{arith}
use Rattle.flow.proofs.reaching.count_set.Goals as goal

pub loop-b-preserved : goal.loop-b-preserved
loop-b-preserved c =
    let l = c.loop-b in
    let h = byte_one _ c.from-n.ensures in
    (counted_more c.args.seen.now l.b-index l.n c.loop-b-test.true c.from-n.ensures l.invariant.0, omega (arith, h, l.invariant.1))

pub returns : goal.returns
returns c = let l = c.loop-b in counted_end c.args.seen.now l.b-index l.n c.loop-b-test.false l.invariant.0
