-- `usefacts::widths::has_other` meets its contract. Assumes nothing.
use borrow.Author.Rules.{rules}
use Rattle.usefacts.proofs.Widening.{passed_here, passed_further, passed_end}
use Rattle.usefacts.proofs.widths.has_other.Goals as goal

pub returns-then-is_other : goal.returns-then-is_other
returns-then-is_other c = passed_here _ _ _ _ _ _ _ c.loop-w-test.true c.is_other.ensures c.loop-w.invariant (search rules)

pub loop-w-preserved : goal.loop-w-preserved
loop-w-preserved c = passed_further _ _ _ _ _ _ _ c.loop-w-test.true c.is_other.ensures c.loop-w.invariant (search rules) c.text-last.ensures

pub returns : goal.returns
returns c = passed_end _ _ _ _ _ _ _ c.loop-w-test.false c.loop-w.invariant
