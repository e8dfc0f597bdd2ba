-- `states::cells::entry_in` meets its contract. Assumes nothing.
use Rattle.states.proofs.Deciding.{unlisted, listed}
use native.Mathlib.Omega.{arith}
use Rattle.states.proofs.cells.entry_in.Goals as goal

pub returns-then-cell-ne1 : goal.returns-then-cell-ne1
returns-then-cell-ne1 c = unlisted c.args.cell.now (omega arith)

pub returns : goal.returns
returns c = listed c.args.cell.now (omega arith) c.cell_name.ensures c.cell_length.ensures
