-- `formula::breaches::is_unread` meets its contract. Assumes nothing.
use Rattle.std.proofs.Common.{ap, ◌∙◌}
use Rattle.reference.specs.Numbers.{parse_c_number}
use Rattle.formula.proofs.Testing.{none_here, test_not}
use Rattle.formula.proofs.breaches.is_unread.Goals as goal

pub returns-then-kind-eq-NUMBER : goal.returns-then-kind-eq-NUMBER
returns-then-kind-eq-NUMBER c =
    none_here 2 c.kind.ensures c.if-kind-eq-NUMBER.true c.parse_c_number.result (c.parse_c_number.ensures ∙ ap parse_c_number c.text.ensures) c.is_none.ensures

pub returns-else-kind-eq-NUMBER : goal.returns-else-kind-eq-NUMBER
returns-else-kind-eq-NUMBER c = test_not 2 c.kind.ensures _ c.if-kind-eq-NUMBER.false
