-- `reports::explained::put_head` meets its contract. Assumes nothing.
use Rattle.std.proofs.Common.{arith}
use Rattle.reference.specs.Text.{bytes}
use Rattle.text.proofs.Cursors.{room_left}
use Rattle.printing.proofs.Decimals.{decimal-length}
use Rattle.reports.specs.Reports.{head}
use Rattle.reports.proofs.Putting.{then_named}
use Rattle.reports.proofs.explained.put_head.Goals as goal

pub put_named-requires-2 : goal.put_named-requires-2
put_named-requires-2 c = room_left c.put_named.ensures _ (omega (arith, c.requires, decimal-length c.number.result))

pub returns : goal.returns
unfolding head
returns c =
    let w = rw c.number.ensures at c.put_named.ensures in
    then_named (bytes " at ") c.args.refused.place w (omega (arith, c.requires)) c.put_named-2.ensures
