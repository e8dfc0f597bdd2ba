-- `flow::blocks::closer` meets its contract. Assumes nothing.
use native.Mathlib.Omega.{arith}
use Rattle.flow.proofs.Matching.{closer_here, closer_further, closer_end}
use Rattle.flow.proofs.blocks.closer.Goals as goal

pub returns-then-d-r : goal.returns-then-d-r
returns-then-d-r c = let l = c.loop-m in closer_here c.args.forms.now l.d l.m c.loop-m-test.true l.invariant.0 c.if-d-r.true

pub loop-m-preserved : goal.loop-m-preserved
loop-m-preserved c =
    let l = c.loop-m in
    let f = c.requires.0 l.m c.loop-m-test.true in
    (closer_further c.args.forms.now l.d l.m c.loop-m-test.true l.invariant.0 c.if-d-r.false, omega (arith, f, l.invariant.1))

pub returns : goal.returns
returns c = let l = c.loop-m in closer_end c.args.forms.now l.d l.m c.loop-m-test.false l.invariant.0
