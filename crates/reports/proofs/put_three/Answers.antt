-- `reports::put_three` meets its contract. Assumes nothing.
use Rattle.std.proofs.Common.{arith}
use Rattle.reference.specs.Text.{bytes}
use Rattle.text.proofs.Cursors.{room_left}
use Rattle.printing.proofs.Decimals.{decimal-length}
use Rattle.reports.specs.Reports.{three}
use Rattle.reports.proofs.Putting.{then_named}
use Rattle.reports.proofs.put_three.Goals as goal

pub put_named-requires-2 : goal.put_named-requires-2
put_named-requires-2 c = room_left c.put_named.ensures _ (omega (arith, decimal-length c.args.first))

pub put_named-requires-3 : goal.put_named-requires-3
put_named-requires-3 c =
    room_left c.put_named-2.ensures _ (room_left c.put_named.ensures _ (omega (arith, decimal-length c.args.first, decimal-length c.args.second)))

pub returns : goal.returns
unfolding three
returns c =
    then_named (bytes " ") c.args.third (then_named (bytes " ") c.args.second c.put_named.ensures (omega arith) c.put_named-2.ensures) (omega arith)
    c.put_named-3.ensures
