-- `start::reckoning::behind_first` meets its contract. Assumes nothing.
use Rattle.start.proofs.Pricing.{line_readable, line-consistent, line_value}
use Rattle.start.proofs.reckoning.behind_first.Goals as goal

pub evaluate-requires : goal.evaluate-requires
evaluate-requires c = (
  line_readable _ _ _ c.args.l _ _ c.first-first.ensures c.count.ensures c.requires.0,
  line-consistent _ _ _ c.args.l _ _ c.first-first.ensures c.count.ensures c.requires.0 _ c.requires.2,
)

pub returns : goal.returns
returns c = line_value _ _ _ c.args.l _ _ c.first-first.ensures c.count.ensures c.requires.0 _ _ c.evaluate.result c.evaluate.ensures
