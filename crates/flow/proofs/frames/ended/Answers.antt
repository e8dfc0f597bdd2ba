-- `flow::frames::ended` meets its contract. Assumes nothing.
use Rattle.flow.proofs.Framing.{ended_framed}
use Rattle.flow.proofs.frames.ended.Goals as goal

pub returns : goal.returns
returns c = ended_framed c.args.f c.total.ensures c.total-2.ensures
