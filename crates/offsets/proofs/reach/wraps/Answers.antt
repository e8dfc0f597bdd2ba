-- `offsets::reach::wraps` meets its contract. Assumes nothing.
use Rattle.offsets.proofs.Searching.{sum_over}
use Rattle.offsets.proofs.reach.wraps.Goals as goal

pub returns : goal.returns
returns c = sum_over c.args.base c.args.offset c.checked_add.result c.is_none.result c.checked_add.ensures c.is_none.ensures
