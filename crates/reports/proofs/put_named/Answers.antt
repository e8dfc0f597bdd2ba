-- `reports::put_named` meets its contract. Assumes nothing.
use Rattle.std.proofs.Common.{arith}
use Rattle.text.proofs.Cursors.{then_puts}
use Rattle.reports.proofs.put_named.Goals as goal

pub returns : goal.returns
returns c = then_puts c.put.ensures (omega arith) c.put_decimal.ensures
