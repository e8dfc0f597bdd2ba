-- `offsets::calls::reach` meets its contract. Assumes nothing.
use Rattle.offsets.proofs.Answering.{reach_none, reach_some}
use Rattle.offsets.specs.contracts.calls.reach as code
use denote.Param.{number}
use Rattle.offsets.proofs.calls.reach.Goals as goal

pub returns-in-Some : goal.returns-in-Some
returns-in-Some g c = let a = c.args in
    rw c.at.ensures (reach_some (code.BASED-type (number g.row.BASED)) a.base a.tape.now c.in-Some.ensures)

pub returns-in-None : goal.returns-in-None
returns-in-None g c = let a = c.args in reach_none (code.BASED-type (number g.row.BASED)) a.base a.tape.now c.in-None.ensures
