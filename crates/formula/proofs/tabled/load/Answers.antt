-- `formula::tabled::load` meets its contract. Assumes nothing.
use Rattle.formula.proofs.Loading.{tabled}
use Rattle.formula.proofs.tabled.load.Goals as goal

pub returns-clause-loaded : goal.returns-clause-loaded
returns-clause-loaded c = tabled _ _ _ _ _ _ c.load.result c.load.ensures.loaded
