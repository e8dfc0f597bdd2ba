-- `formula::breaches::is_narrow` meets its contract. Assumes nothing.
use Rattle.formula.proofs.Testing.{test_here, test_not}
use Rattle.formula.proofs.breaches.is_narrow.Goals as goal

pub returns-then-kind-eq-REGISTER : goal.returns-then-kind-eq-REGISTER
returns-then-kind-eq-REGISTER c = test_here 1 c.kind.ensures c.if-kind-eq-REGISTER.true c.is_wide.ensures

pub returns-else-kind-eq-REGISTER : goal.returns-else-kind-eq-REGISTER
returns-else-kind-eq-REGISTER c = test_not 1 c.kind.ensures _ c.if-kind-eq-REGISTER.false
