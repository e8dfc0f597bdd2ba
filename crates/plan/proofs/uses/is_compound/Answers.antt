-- `plan::uses::is_compound` meets its contract. Assumes nothing.
use Rattle.std.proofs.Common.{arith}
use Rattle.std.proofs.lemmas.Bool.Decides.{nat_tests}
use Rattle.reference.specs.Control.{not, ◌and◌}
use Rattle.reference.specs.Listing.{is}
use Rattle.plan.proofs.Fitting.{compound_is}
use Rattle.plan.proofs.uses.is_compound.Goals as goal

pub returns-then-not-has : goal.returns-then-not-has
unfolding not ◌and◌ is
returns-then-not-has c = let e = compound_is c.args.texts.now.tape.now c.args.texts.now.area.now c.args.line.now c.args.pos in grind (arith, nat_tests)

pub returns-else-not-has : goal.returns-else-not-has
unfolding not ◌and◌ is
returns-else-not-has c = let e = compound_is c.args.texts.now.tape.now c.args.texts.now.area.now c.args.line.now c.args.pos in grind (arith, nat_tests)
