-- `names::families::stack_slot` meets its contract. Assumes nothing.
use Rattle.std.proofs.Common.{sym, ◌∙◌}
use Rattle.names.proofs.Spelling.{slot, no_slot}
use Rattle.names.proofs.families.stack_slot.Goals as goal

pub returns-then-not-starts : goal.returns-then-not-starts
returns-then-not-starts c = no_slot c.args.s.now (sym c.starts.ensures ∙ c.if-not-starts.true)

pub returns : goal.returns
returns c = slot c.args.s.now (sym c.starts.ensures ∙ c.if-not-starts.false)
