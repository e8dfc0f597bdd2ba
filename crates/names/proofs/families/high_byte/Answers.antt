-- `names::families::high_byte` meets its contract. Assumes nothing.
use Rattle.std.proofs.Common.{sym}
use Rattle.reference.specs.Control.{when◌then◌else◌}
use Rattle.names.specs.Tables.{unpadded}
use Rattle.names.proofs.Spelling.{high, not_high}
use Rattle.names.proofs.families.high_byte.Goals as goal

pub returns-in-Some : goal.returns-in-Some
unfolding unpadded when◌then◌else◌
returns-in-Some c = high c.args.s.now (sym c.in-Some.ensures.is)

pub returns-in-None : goal.returns-in-None
unfolding unpadded when◌then◌else◌
returns-in-None c = rw (not_high c.args.s.now (sym c.in-None.ensures.is)) c.numbered.ensures
