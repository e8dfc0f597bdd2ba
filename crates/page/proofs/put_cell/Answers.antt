-- `page::put_cell` meets its contract. Assumes nothing.
use Rattle.std.proofs.Common.{arith}
use Rattle.text.proofs.Cursors.{then_puts, room_left}
use Rattle.printing.proofs.Decimals.{decimal-length}
use Rattle.page.specs.Cells.{cell}
use Rattle.page.proofs.Escaped.{escaped-length}
use Rattle.page.proofs.put_cell.Goals as goal

pub put_decimal-requires : goal.put_decimal-requires
put_decimal-requires c = room_left c.put.ensures _ (omega arith)

pub put-requires-2 : goal.put-requires-2
put-requires-2 c = room_left c.put_decimal.ensures _ (room_left c.put.ensures _ (omega (arith, decimal-length c.args.kind)))

pub put_escaped-requires : goal.put_escaped-requires
put_escaped-requires c =
    room_left c.put-2.ensures _ (room_left c.put_decimal.ensures _ (room_left c.put.ensures _ (omega (arith, decimal-length c.args.kind))))

pub put-requires-3 : goal.put-requires-3
put-requires-3 c =
    room_left c.put_escaped.ensures _
    (room_left c.put-2.ensures _
    (room_left c.put_decimal.ensures _
    (room_left c.put.ensures _
    (omega (arith, decimal-length c.args.kind, escaped-length c.args.text.now)))))

pub returns : goal.returns
unfolding cell
returns c =
    then_puts
    (then_puts (then_puts (then_puts c.put.ensures (omega arith) c.put_decimal.ensures) (omega arith) c.put-2.ensures) (omega arith) c.put_escaped.ensures)
    (omega arith) c.put-3.ensures
