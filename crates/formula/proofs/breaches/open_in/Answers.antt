-- `formula::breaches::open_in` meets its contract. Assumes nothing.
use Rattle.std.proofs.Common.{arith, ap, ◌∙◌}
use Rattle.reference.specs.Options.{option_of}
use Rattle.formula.proofs.Testing.{opens_fail, opens_next, opens_over}
use Rattle.formula.proofs.breaches.open_in.Goals as goal

pub returns-in_err-n-clause-open : goal.returns-in_err-n-clause-open
returns-in_err-n-clause-open c =
    ap option_of c.from_residual.ensures ∙ opens_fail c.args.s.now c.args.start _ _ c.loop-b.invariant c.loop-b-test.true _ c.open_past.ensures c.in_err-n.was

pub loop-b-preserved : goal.loop-b-preserved
loop-b-preserved c = opens_next c.args.s.now c.args.start _ _ c.loop-b.invariant c.loop-b-test.true _ c.open_past.ensures c.in_ok-n.n c.in_ok-n.was

pub returns-clause-open : goal.returns-clause-open
returns-clause-open c = opens_over c.args.s.now c.args.start _ _ c.loop-b.invariant (omega (arith, c.loop-b-test.false))
