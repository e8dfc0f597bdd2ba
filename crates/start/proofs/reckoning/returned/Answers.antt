-- `start::reckoning::returned` meets its contract. Assumes nothing.
use Rattle.start.proofs.Pricing.{line_worth}
use Rattle.start.proofs.reckoning.returned.Goals as goal

pub returns : goal.returns
returns c = rw c.unwrap_or.ensures (line_worth c.args.formula.now.texts.tape.now c.args.formula.now.texts.area.now c.args.formula.now.tokens.now c.args.l _ _ c.behind_first.ensures _)
