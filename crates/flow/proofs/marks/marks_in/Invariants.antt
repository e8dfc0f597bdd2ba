-- What the loop of `flow::marks::marks_in` keeps true: the changes of all are those so far and those of the bytes that come. Assumes nothing.
use Rattle.std.proofs.Common.{◌≡◌, ◌≤◌, drop}
use Rattle.cautions.specs.Texts.{marks_after}
use Rattle.flow.specs.Marking.{marking}
use Rattle.flow.proofs.marks.marks_in.Given as goal

abbrev pub invariant-loop-b : goal.invariant-loop-b
invariant-loop-b l = (l.m.count ≤ l.b-index) × (marking l.m (drop l.b-index l.s) ≡ marks_after 0 l.s)
