-- `start::reckoning::overwrite` meets its contract. Assumes nothing.
use native.Mathlib.Omega.{arith}
use borrow.Author.Rules.{rules}
use Rattle.start.proofs.Pricing.{over_first, over_hit, over_miss, over-all}
use Rattle.start.proofs.reckoning.overwrite.Goals as goal
use Rattle.start.proofs.reckoning.overwrite.Goals.{then-is_same, else-is_same}

pub loop-k-init : goal.loop-k-init
loop-k-init c = over_first _ _ _ _ _ _ (search rules)

pub is_same-requires : goal.is_same-requires
is_same-requires c =
    (c.requires.0.at _ c.loop-k-test.true, c.requires.1)

pub bounds-values-k : goal.bounds-values-k
bounds-values-k c =
    omega (arith, c.loop-k.invariant.room, c.loop-k-test.true)

pub loop-k-preserved : goal.loop-k-preserved
loop-k-preserved c =
    elim c.if-is_same.branch [
      | then-is_same w ↦ over_hit _ _ _ _ _ _ _ _ c.loop-k.invariant c.loop-k-test.true c.is_same.ensures w.if-is_same.true _ w.values-is
      | else-is_same w ↦ over_miss _ _ _ _ _ _ _ _ c.loop-k.invariant c.loop-k-test.true c.is_same.ensures w.if-is_same.false _ w.values-is
    ]

pub returns : goal.returns
returns c = over-all _ _ _ _ _ _ _ _ c.loop-k.invariant c.loop-k-test.false
