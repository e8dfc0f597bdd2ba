-- `usefacts::widths::first_width` meets its contract. Assumes nothing.
use borrow.Author.Rules.{rules}
use Rattle.usefacts.proofs.Widening.{first_here, first_further, first_end}
use Rattle.usefacts.proofs.widths.first_width.Goals as goal

pub returns-in-Some : goal.returns-in-Some
returns-in-Some c = first_here _ _ _ _ _ _ c.loop-w-test.true _ c.token_width.ensures c.loop-w.invariant (search rules)

pub loop-w-preserved : goal.loop-w-preserved
loop-w-preserved c = first_further _ _ _ _ _ _ c.loop-w-test.true _ c.token_width.ensures c.loop-w.invariant (search rules) c.text-last.ensures

pub returns : goal.returns
returns c = first_end _ _ _ _ _ _ c.loop-w-test.false c.loop-w.invariant
