-- `formula::breaches::is_untidy` meets its contract. Assumes nothing.
use Rattle.std.proofs.Common.{ap, ◌∙◌}
use Rattle.reference.specs.Evaluators.{is_tidy}
use Rattle.formula.proofs.Testing.{test_here, test_not}
use Rattle.formula.proofs.breaches.is_untidy.Goals as goal

pub returns-then-kind-eq-NUMBER : goal.returns-then-kind-eq-NUMBER
returns-then-kind-eq-NUMBER c = test_here 2 c.kind.ensures c.if-kind-eq-NUMBER.true (c.is_tidy.ensures ∙ ap is_tidy c.text.ensures)

pub returns-else-kind-eq-NUMBER : goal.returns-else-kind-eq-NUMBER
returns-else-kind-eq-NUMBER c = test_not 2 c.kind.ensures _ c.if-kind-eq-NUMBER.false
