-- `states::cells::cell_length` meets its contract. Assumes nothing.
use Rattle.states.specs.Store.{length_of}
use Rattle.states.proofs.cells.cell_length.Goals as goal

pub returns : goal.returns
unfolding length_of
returns c = c.number_at.ensures
