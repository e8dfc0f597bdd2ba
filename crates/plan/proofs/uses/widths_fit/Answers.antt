-- `plan::uses::widths_fit` meets its contract. Assumes nothing.
use Rattle.std.proofs.Common.{arith}
use Rattle.std.proofs.lemmas.Bool.Decides.{nat_tests}
use Rattle.reference.specs.Control.{not, ◌and◌, ◌or◌}
use Rattle.plan.proofs.uses.widths_fit.Goals as goal

pub returns-then-used-width : goal.returns-then-used-width
unfolding not ◌and◌ ◌or◌
returns-then-used-width c = grind (arith, nat_tests)

pub returns-then-used-ge32 : goal.returns-then-used-ge32
unfolding not ◌and◌ ◌or◌
returns-then-used-ge32 c = grind (arith, nat_tests)

pub returns-else-used-ge32 : goal.returns-else-used-ge32
unfolding not ◌and◌ ◌or◌
returns-else-used-ge32 c = grind (arith, nat_tests)
