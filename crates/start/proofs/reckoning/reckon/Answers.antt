-- `start::reckoning::reckon` meets its contract. Assumes nothing.
use borrow.Author.Rules.{rules}
use Rattle.start.proofs.Running.{some_of}
use Rattle.start.proofs.reckoning.reckon.Goals as goal

pub run-requires : goal.run-requires
run-requires c = let es = some_of _ c.requires.2 in (search rules, search rules, record { store = _; priced = c.fill.ensures es.0 es.1 })

pub returns : goal.returns
returns c = λ reading es q. c.run.ensures reading _ (c.fill.ensures es q)
