-- `states::cells::cell_start` meets its contract. Assumes nothing.
use Rattle.states.specs.Store.{CELL}
use Rattle.states.proofs.Contents.{cell_is}
use Prim.Native.Nat.{ℕ, ◌*◌}
use mathlib.Core.Path.{ap}
use native.Mathlib.Omega.{arith}
use Rattle.states.proofs.cells.cell_start.Goals as goal

pub overflow_mul-result : goal.overflow_mul-result
unfolding CELL
overflow_mul-result c = omega arith

pub returns : goal.returns
returns c = ap (λ (k : ℕ). c.args.i * k) cell_is
