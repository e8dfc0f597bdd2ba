-- `usefacts::reads::reads_between` meets its contract. Assumes nothing.
use borrow.Author.Rules.{rules}
use Rattle.usefacts.proofs.Reading.{read_here, read_further, read_end}
use Rattle.usefacts.proofs.reads.reads_between.Goals as goal

pub returns-then-reads_here : goal.returns-then-reads_here
returns-then-reads_here c = read_here _ _ _ _ _ _ c.loop-k-test.true c.text_or.ensures c.reads_here.ensures (search rules) c.loop-k.invariant

pub loop-k-preserved : goal.loop-k-preserved
loop-k-preserved c = read_further _ _ _ _ _ _ c.loop-k-test.true c.text_or.ensures c.reads_here.ensures (search rules) c.text-last.ensures c.loop-k.invariant

pub returns : goal.returns
returns c = read_end _ _ _ _ _ _ c.loop-k-test.false c.loop-k.invariant
