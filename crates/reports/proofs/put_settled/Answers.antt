-- `reports::put_settled` meets its contract. Assumes nothing.
use Rattle.std.proofs.Common.{arith}
use Rattle.reference.specs.Text.{bytes}
use Rattle.text.proofs.Cursors.{room_left}
use Rattle.printing.proofs.Decimals.{decimal-length}
use Rattle.reports.specs.Reports.{settled}
use Rattle.reports.proofs.Putting.{then_named}
use Rattle.reports.proofs.put_settled.Goals as goal

pub put_named-requires-2 : goal.put_named-requires-2
put_named-requires-2 c = room_left c.put_named.ensures _ (omega (arith, decimal-length c.args.rounds))

pub returns : goal.returns
unfolding settled
returns c = then_named (bytes ", attempts ") c.args.attempts c.put_named.ensures (omega arith) c.put_named-2.ensures
