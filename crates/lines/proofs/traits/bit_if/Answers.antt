-- `lines::traits::bit_if` meets its contract. Assumes nothing.
use Rattle.lines.proofs.traits.Rows.{bit_true, bit_false}
use Rattle.lines.proofs.traits.bit_if.Goals as goal

pub returns-then-holds : goal.returns-then-holds
returns-then-holds c = bit_true c.args.place c.requires c.if-holds.true

pub returns-else-holds : goal.returns-else-holds
returns-else-holds c = bit_false c.args.place c.if-holds.false
