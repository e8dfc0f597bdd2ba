-- `editions::texts::put_byte` meets its contract. Assumes nothing.
use Rattle.editions.proofs.Putting.{byte_gone, byte_put}
use Rattle.editions.proofs.texts.put_byte.Goals as goal

pub returns-then-b-ne-QUOTE : goal.returns-then-b-ne-QUOTE
returns-then-b-ne-QUOTE c = byte_put _ c.if-b-ne-QUOTE.true c.put_byte.ensures

pub returns-else-b-ne-QUOTE : goal.returns-else-b-ne-QUOTE
returns-else-b-ne-QUOTE c = byte_gone _ c.if-b-ne-QUOTE.false
