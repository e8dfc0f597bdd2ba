-- `reports::meaning` meets its contract. Assumes nothing.
use Rattle.reports.proofs.Reasons.{no_reason}
use Rattle.reports.proofs.meaning.Goals as goal

pub returns-in-Err : goal.returns-in-Err
returns-in-Err c = no_reason c.args.number c.in-Err.ensures
