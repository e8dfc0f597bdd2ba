-- `states::cells::cell_name` meets its contract. Assumes nothing.
use Rattle.states.specs.Store.{name_of}
use mathlib.Core.Path.{refl}
use Rattle.states.proofs.cells.cell_name.Goals as goal

pub returns : goal.returns
unfolding name_of
returns c = refl
