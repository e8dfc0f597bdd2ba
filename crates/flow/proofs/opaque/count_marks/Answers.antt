-- `flow::opaque::count_marks` meets its contract. Assumes nothing.
use native.Mathlib.Omega.{arith}
use Rattle.flow.proofs.Changes.{marks_few}
use Rattle.flow.proofs.Strange.{marks_more, marks_end}
use Rattle.flow.proofs.opaque.count_marks.Goals as goal

pub loop-w-init : goal.loop-w-init
loop-w-init c = (omega arith, omega arith)

pub overflow_add-n : goal.overflow_add-n
overflow_add-n c = let f = marks_few (c.requires.0.at c.loop-w.w-index c.loop-w-test.true) in omega (arith, f, c.marks_of-n.ensures, c.loop-w.invariant.1)

pub loop-w-preserved : goal.loop-w-preserved
loop-w-preserved c =
    let t = c.args.texts.now in
    let l = c.loop-w in
    let f = marks_few (c.requires.0.at l.w-index c.loop-w-test.true) in (
      marks_more t.tape.now t.area.now c.args.line.now l.w-index l.n c.loop-w-test.true c.marks_of-n.ensures l.invariant.0,
      omega (arith, f, c.marks_of-n.ensures, l.invariant.1),
    )

pub returns : goal.returns
returns c = let t = c.args.texts.now in marks_end t.tape.now t.area.now c.args.line.now c.loop-w.w-index c.loop-w.n c.loop-w-test.false c.loop-w.invariant.0
