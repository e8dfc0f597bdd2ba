-- `states::cells::Cells::held_tape` meets its contract. Assumes nothing.
use lib.ListN.{length}
use Rattle.states.proofs.Contents.{cell_head, cell-length, room_is, room_fits}
use Rattle.states.specs.Store.{tape_of}
use native.Mathlib.Omega.{arith}
use Prim.Native.Nat.{◌+◌, ◌-◌}
use mathlib.Core.Path.{◌≡◌, ap, ◌∙◌}
use Rattle.states.proofs.cells.Cells.held_tape.Goals as goal

pub cell_length-requires : goal.cell_length-requires
cell_length-requires c =
    rw c.cell_at-cell.ensures
    (cell_head c.args.self.now.bytes.now c.args.i c.requires.0 c.args.self.now.whole)

pub overflow_add-result : goal.overflow_add-result
overflow_add-result c =
    let e = rw c.cell_at-cell.ensures at c.cell_length.ensures in
    omega (arith, e, c.requires.1, room_fits)

pub slice_bounds-result-end : goal.slice_bounds-result-end
slice_bounds-result-end c = let e = rw c.cell_at-cell.ensures at c.cell_length.ensures in
    let l = ap length c.cell_at-cell.ensures ∙ cell-length c.args.self.now.bytes.now c.args.i c.requires.0 c.args.self.now.whole
    in
    omega (arith, e, l, c.requires.1, room_is)

pub returns : goal.returns
unfolding tape_of
returns c = let e = c.cell_at-cell.ensures in
    let z = c.cell_length.ensures in
    let w : 13 + c.cell_length.result - 13 ≡ c.cell_length.result = omega arith in
    rw (w, z, e)
