-- `states::cells::Cells::holds` meets its contract. Assumes nothing.
use Rattle.laws.proofs.Scans.{and_true}
use borrow.Author.Tests.{eq-eqb, ne_eqb}
use Rattle.reference.specs.Control.{◌and◌}
use Rattle.states.specs.Store.{holds, first_byte}
use mathlib.Core.Path.{sym, ap, ◌∙◌}
use lib.ListN.{length}
use native.Mathlib.Omega.{arith}
use Rattle.states.proofs.Contents.{cell_head}
use Rattle.states.proofs.cells.Cells.holds.Goals as goal

pub bounds-cell-0 : goal.bounds-cell-0
bounds-cell-0 c =
    let h = cell_head c.args.self.now.bytes.now c.args.i c.requires c.args.self.now.whole in
    omega (arith, h, ap length c.cell_at-cell.ensures)

pub cell_name-requires : goal.cell_name-requires
cell_name-requires c = rw c.cell_at-cell.ensures (cell_head c.args.self.now.bytes.now c.args.i c.requires c.args.self.now.whole)

pub returns-then-cell-eq1 : goal.returns-then-cell-eq1
unfolding holds first_byte
returns-then-cell-eq1 c = rw (← c.cell_at-cell.ensures) (c.same.ensures ∙ rw c.cell_name.ensures (sym (and_true _ (eq-eqb _ _ c.if-cell-eq1.true))))

pub returns-else-cell-eq1 : goal.returns-else-cell-eq1
unfolding holds first_byte ◌and◌
returns-else-cell-eq1 c = rw (← c.cell_at-cell.ensures, ne_eqb _ _ c.if-cell-eq1.false)
