-- `usefacts::rest::is_only_written` meets its contract. Assumes nothing.
use Rattle.usefacts.proofs.Resting.{written_by}
use Rattle.usefacts.proofs.rest.is_only_written.Goals as goal

pub returns-in-Some : goal.returns-in-Some
returns-in-Some c = written_by _ _ _ c.mark_at.ensures c.in-Some.is c.text_at.ensures c.holds.ensures
