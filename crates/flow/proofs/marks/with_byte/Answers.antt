-- `flow::marks::with_byte` meets its contract. Assumes nothing.
use Rattle.flow.specs.Marking.{marking}
use Rattle.flow.proofs.Changes.{marked}
use Rattle.flow.proofs.marks.with_byte.Goals as goal

pub returns-clause-is : goal.returns-clause-is
unfolding marking
returns-clause-is c =
    let m = c.args.m in
    λ s. rw c.unless_shift.ensures (marked m.before m.last c.args.b m.count c.from-ended.result s c.is_mark.result c.is_mark.ensures c.from-ended.ensures)
