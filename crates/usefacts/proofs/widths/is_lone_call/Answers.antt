-- `usefacts::widths::is_lone_call` meets its contract. Assumes nothing.
use Rattle.usefacts.proofs.Widening.{call_later}
use Rattle.usefacts.proofs.widths.is_lone_call.Goals as goal

pub returns-then-k-ne0 : goal.returns-then-k-ne0
returns-then-k-ne0 c = call_later _ c.call_at.ensures c.in-Some.is c.if-k-ne0.true
