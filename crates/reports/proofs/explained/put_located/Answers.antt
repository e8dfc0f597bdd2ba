-- `reports::explained::put_located` meets its contract. Assumes nothing.
use Rattle.std.proofs.Common.{arith, sym}
use lib.ListN.{length-append}
use Rattle.text.proofs.Cursors.{then_puts, puts_as, room_left}
use Rattle.printing.proofs.Decimals.{decimal-length}
use Rattle.answers.specs.Refusals.{number_of}
use Rattle.reports.proofs.Placing.{to_line-length, located-begun}
use Rattle.reports.proofs.explained.put_located.Goals as goal

pub put_token-requires : goal.put_token-requires
put_token-requires c =
    let w = rw c.to_line.ensures at c.put_named.ensures in
    room_left w _
    (rw length-append (omega (arith, c.requires, decimal-length c.args.spot.line, to_line-length (number_of c.args.reason))))

pub returns-then-spot-ne0 : goal.returns-then-spot-ne0
returns-then-spot-ne0 c =
    let w = rw c.to_line.ensures at c.put_named.ensures in
    puts_as (then_puts w (omega (arith, c.requires)) c.put_token.ensures) (sym (located-begun (number_of c.args.reason) c.args.spot c.if-spot-ne0.true))
