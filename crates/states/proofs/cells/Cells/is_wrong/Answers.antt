-- `states::cells::Cells::is_wrong` meets its contract. Assumes nothing.
use lib.ListN.{length}
use Rattle.states.proofs.Deciding.{wrong-above, right-free, wrong-long, wrong-twice}
use Rattle.states.proofs.Contents.{cell_head}
use native.Mathlib.Omega.{arith}
use mathlib.Core.Path.{sym, ap, ◌∙◌}
use Rattle.states.proofs.cells.Cells.is_wrong.Goals as goal

pub bounds-cell-0 : goal.bounds-cell-0
bounds-cell-0 c =
    let h = cell_head c.args.self.now.bytes.now c.args.i c.requires c.args.self.now.whole in
    omega (arith, h, ap length c.cell_at-cell.ensures)

pub cell_length-requires : goal.cell_length-requires
cell_length-requires c = rw c.cell_at-cell.ensures (cell_head c.args.self.now.bytes.now c.args.i c.requires c.args.self.now.whole)

pub cell_name-requires : goal.cell_name-requires
cell_name-requires c = rw c.cell_at-cell.ensures (cell_head c.args.self.now.bytes.now c.args.i c.requires c.args.self.now.whole)

pub returns-in-0 : goal.returns-in-0
returns-in-0 c = right-free c.args.self.now.bytes.now c.args.i c.cell_at-cell.ensures (omega arith) (omega arith)

pub returns-then-is_long : goal.returns-then-is_long
returns-then-is_long c = c.if-is_long.true
    ∙ wrong-long c.args.self.now.bytes.now c.args.i c.cell_at-cell.ensures (omega arith) c.in-1.is
    (rw c.cell_length.ensures at (sym c.is_long.ensures ∙ c.if-is_long.true))

pub returns-else-is_long : goal.returns-else-is_long
returns-else-is_long c = c.is_taken.ensures
    ∙ rw c.cell_name.ensures
    (wrong-twice c.args.self.now.bytes.now c.args.i c.cell_at-cell.ensures (omega arith) c.in-1.is
    (rw c.cell_length.ensures at (sym c.is_long.ensures ∙ c.if-is_long.false)))

pub returns-in_default : goal.returns-in_default
returns-in_default c = wrong-above c.args.self.now.bytes.now c.args.i c.cell_at-cell.ensures (omega arith)
