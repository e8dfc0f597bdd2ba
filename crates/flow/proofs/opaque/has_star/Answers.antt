-- `flow::opaque::has_star` meets its contract. Assumes nothing.
use borrow.Author.Rules.{rules}
use Rattle.flow.proofs.Strange.{star_here, star_further, star_end}
use Rattle.flow.proofs.opaque.has_star.Goals as goal

pub returns-then-star_at : goal.returns-then-star_at
returns-then-star_at c = star_here _ _ _ c.loop-k-test.true c.byte_or_zero.ensures c.star_at.ensures c.loop-k.invariant (search rules)

pub loop-k-preserved : goal.loop-k-preserved
loop-k-preserved c = star_further _ _ _ c.loop-k-test.true c.byte_or_zero.ensures c.star_at.ensures c.loop-k.invariant (search rules)

pub returns : goal.returns
returns c = star_end _ _ _ c.loop-k-test.false c.loop-k.invariant
