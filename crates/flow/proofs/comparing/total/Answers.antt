-- `flow::comparing::total` meets its contract. Assumes nothing.
use Rattle.flow.specs.Compared.{compared}
use Rattle.flow.proofs.Truths.{compared_last}
use Rattle.flow.proofs.comparing.total.Goals as goal

pub returns : goal.returns
unfolding compared
returns c = let m = c.args.m in compared_last m.first m.second m.third m.begun m.found c.found_by.result c.found_by.ensures
