-- `names::volatile::number_of` meets its contract. Assumes nothing.
use Rattle.reference.specs.Control.{when◌then◌else◌}
use Rattle.names.specs.Tables.{unpadded}
use Rattle.names.proofs.Volatiles.{with_number, no_number}
use Rattle.names.proofs.volatile.number_of.Goals as goal

pub returns : goal.returns
unfolding unpadded when◌then◌else◌
returns c = with_number c.args.s.now c.in_ok-column_in.ensures.is

pub returns-in_err-column_in : goal.returns-in_err-column_in
unfolding unpadded when◌then◌else◌
returns-in_err-column_in c = rw c.from_residual.ensures (no_number c.args.s.now c.in_err-column_in.ensures.is)
