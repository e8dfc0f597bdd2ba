-- `test_replay::calls::is_right` meets its contract. Assumes nothing.
use Rattle.test_replay.proofs.Wanting.{from-marks}
use Rattle.test_replay.proofs.calls.is_right.Goals as goal

pub returns : goal.returns
returns c = from-marks _ _ _ _ _ c.want_work.ensures c.want_out.ensures c.all_right.ensures
