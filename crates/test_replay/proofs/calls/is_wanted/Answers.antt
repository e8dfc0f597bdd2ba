-- `test_replay::calls::is_wanted` meets its contract. Assumes nothing.
use Rattle.test_replay.proofs.Wanting.{compares_reports}
use Rattle.test_replay.proofs.calls.is_wanted.Goals as goal

pub returns : goal.returns
returns c = compares_reports c.args.frame.now.list.now c.wanted.ensures c.from.ensures c.eq.ensures
