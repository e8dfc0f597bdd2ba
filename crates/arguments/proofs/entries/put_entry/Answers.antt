-- `arguments::entries::put_entry` meets its contract. Assumes nothing.
use Rattle.arguments.proofs.Naming.{entry_put, entry_none}
use Rattle.arguments.proofs.entries.put_entry.Goals as goal

pub returns-in-Some : goal.returns-in-Some
returns-in-Some c = entry_put _ c.in-Some.ensures c.put_named.ensures

pub returns-in_default : goal.returns-in_default
returns-in_default c = entry_none _ c.in_default.ensures
