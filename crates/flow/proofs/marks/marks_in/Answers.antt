-- `flow::marks::marks_in` meets its contract. Assumes nothing.
use native.Mathlib.Omega.{arith}
use Rattle.flow.proofs.Changes.{none_marked}
use Rattle.flow.proofs.marks.marks_in.Goals as goal

pub loop-b-init : goal.loop-b-init
loop-b-init c = (omega arith, none_marked c.args.s.now)
