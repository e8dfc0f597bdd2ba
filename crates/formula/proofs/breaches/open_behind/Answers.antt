-- `formula::breaches::open_behind` meets its contract. Assumes nothing.
use Rattle.std.proofs.Common.{arith, ap, ◌∙◌}
use Rattle.reference.specs.Options.{option_of}
use Rattle.formula.proofs.Testing.{before_fail, before_next, before_over}
use Rattle.formula.proofs.breaches.open_behind.Goals as goal

pub returns-in_err-n : goal.returns-in_err-n
returns-in_err-n c =
    let l = c.args.line.now in
    ap option_of c.from_residual.ensures
    ∙ before_fail l.texts.tape.now l.texts.area.now l.words.now _ _ c.loop-w.invariant c.loop-w-test.true _ c.open_after.ensures.open c.in_err-n.was

pub loop-w-preserved : goal.loop-w-preserved
loop-w-preserved c =
    let l = c.args.line.now in
    before_next l.texts.tape.now l.texts.area.now l.words.now _ _ c.loop-w.invariant c.loop-w-test.true _ c.open_after.ensures.open c.in_ok-n.n c.in_ok-n.was
    (c.open_after.ensures.few c.in_ok-n.n c.in_ok-n.was)

pub returns : goal.returns
returns c =
    let l = c.args.line.now in
    before_over l.texts.tape.now l.texts.area.now l.words.now _ _ c.loop-w.invariant (omega (arith, c.loop-w-test.false))
