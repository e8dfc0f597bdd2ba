-- `plan::reaches::updates_first` meets its contract. Assumes nothing.
use Rattle.std.proofs.Common.{arith}
use Rattle.std.proofs.lemmas.Bool.Decides.{nat_tests}
use Rattle.reference.specs.Control.{not, ◌and◌}
use Rattle.reference.specs.Listing.{is}
use Rattle.lines.specs.Fams.{fam_text}
use Rattle.plan.proofs.Reaching.{updates_is}
use Rattle.plan.proofs.reaches.updates_first.Goals as goal

pub returns-then-not-has : goal.returns-then-not-has
unfolding not ◌and◌ is
returns-then-not-has c =
    let e = updates_is c.args.texts.now.tape.now c.args.texts.now.area.now (fam_text c.args.texts.now.tape.now c.args.texts.now.area.now c.args.f) c.args.line.now in grind (arith, nat_tests)

pub returns-else-not-has : goal.returns-else-not-has
unfolding not ◌and◌ is
returns-else-not-has c =
    let e = updates_is c.args.texts.now.tape.now c.args.texts.now.area.now (fam_text c.args.texts.now.tape.now c.args.texts.now.area.now c.args.f) c.args.line.now in grind (arith, nat_tests)
