-- `flow::lineforms::is_case` meets its contract. Assumes nothing.
use Rattle.flow.proofs.Classes.{case_here, case_further, case_end}
use Rattle.flow.proofs.lineforms.is_case.Goals as goal

pub returns-in-Some : goal.returns-in-Some
returns-in-Some c =
    let t = c.args.texts.now in
    case_here t.tape.now t.area.now c.args.line.now c.loop-w.w-index c.loop-w-test.true c.steering.result c.steering.ensures c.loop-w.invariant c.in-Some.is

pub loop-w-preserved : goal.loop-w-preserved
loop-w-preserved c =
    let t = c.args.texts.now in
    case_further t.tape.now t.area.now c.args.line.now c.loop-w.w-index c.loop-w-test.true c.steering.result c.steering.ensures c.loop-w.invariant c.in-None.is

pub returns : goal.returns
returns c =
    let t = c.args.texts.now in
    case_end t.tape.now t.area.now c.args.line.now c.loop-w.w-index c.loop-w-test.false c.loop-w.invariant
