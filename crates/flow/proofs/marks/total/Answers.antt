-- `flow::marks::total` meets its contract. Assumes nothing.
use Rattle.flow.specs.Marking.{marking}
use Rattle.flow.proofs.Changes.{marked_last}
use Rattle.flow.proofs.marks.total.Goals as goal

pub returns : goal.returns
unfolding marking
returns c = let m = c.args.m in marked_last m.before m.last m.count _ c.is_mark.result c.is_mark.ensures c.from.ensures
