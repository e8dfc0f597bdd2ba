-- `flow::blocks::opener` meets its contract. Assumes nothing.
use native.Mathlib.Omega.{arith}
use Prim.Native.Nat.{◌-◌}
use Rattle.flow.proofs.Matching.{opener_here, opener_further, opener_end}
use Rattle.flow.proofs.blocks.opener.Goals as goal

pub returns-then-d-r : goal.returns-then-d-r
returns-then-d-r c = let l = c.loop-j in opener_here c.args.forms.now l.d c.args.k l.j c.loop-j-test.true c.requires.1 l.invariant.0 c.if-d-r.true

pub loop-j-preserved : goal.loop-j-preserved
loop-j-preserved c =
    let l = c.loop-j in
    let f = c.requires.0 (c.args.k - 1 - l.j) (omega arith) in
    (opener_further c.args.forms.now l.d c.args.k l.j c.loop-j-test.true c.requires.1 l.invariant.0 c.if-d-r.false, omega (arith, f, l.invariant.1))

pub returns : goal.returns
returns c = let l = c.loop-j in opener_end c.args.forms.now l.d c.args.k l.j c.loop-j-test.false l.invariant.0
