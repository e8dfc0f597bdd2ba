-- `states::cells::Cells::cell_at` meets its contract. Assumes nothing.
use Rattle.states.proofs.Contents.{cell_is, cell-ends, store-fits}
use Rattle.states.specs.Store.{cell}
use native.Mathlib.Omega.{arith}
use Prim.Native.Nat.{◌+◌, ◌-◌}
use mathlib.Core.Path.{◌≡◌}
use Rattle.states.proofs.cells.Cells.cell_at.Goals as goal

pub overflow_add-result : goal.overflow_add-result
overflow_add-result c =
    omega (arith, cell_is, c.cell_start-at.ensures, cell-ends c.args.i c.requires, store-fits)

pub slice_bounds-result-end : goal.slice_bounds-result-end
slice_bounds-result-end c =
    omega (arith, cell_is, c.cell_start-at.ensures, cell-ends c.args.i c.requires, c.args.self.now.whole)

pub returns : goal.returns
unfolding cell
returns c = let e = c.cell_start-at.ensures in
    let z = cell_is in
    let w : c.cell_start-at.result + 65536 - c.cell_start-at.result ≡ 65536 = omega arith in
    rw (w, e, z)
