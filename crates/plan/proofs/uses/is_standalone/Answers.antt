-- `plan::uses::is_standalone` meets its contract. Assumes nothing.
use Rattle.std.proofs.Common.{arith}
use Rattle.std.proofs.lemmas.Bool.Decides.{nat_tests}
use Rattle.reference.specs.Control.{◌and◌}
use Rattle.lines.specs.Traits.{delimits_before, delimits_after}
use Rattle.plan.proofs.Fitting.{alone_is}
use Rattle.plan.proofs.uses.is_standalone.Goals as goal

pub returns-then-has : goal.returns-then-has
unfolding ◌and◌ delimits_before delimits_after
returns-then-has c = let e = alone_is c.args.texts.now.tape.now c.args.texts.now.area.now c.args.line.now c.args.pos in grind (arith, nat_tests)

pub returns-else-has : goal.returns-else-has
unfolding ◌and◌ delimits_before delimits_after
returns-else-has c = let e = alone_is c.args.texts.now.tape.now c.args.texts.now.area.now c.args.line.now c.args.pos in grind (arith, nat_tests)
