-- `test_replay::calls::settings` meets its contract. Assumes nothing.
use mathlib.Core.Path.{ap}
use Rattle.test_replay.specs.Answers.{rules_as}
use Rattle.test_replay.proofs.calls.settings.Goals as goal

pub returns : goal.returns
returns c = rw c.to_le_bytes.ensures (ap rules_as c.number-n.ensures)
