-- `states::cells::Cells::is_free` meets its contract. Assumes nothing.
use lib.ListN.{length}
use native.Mathlib.Omega.{arith}
use mathlib.Core.Path.{refl, ap}
use Rattle.states.specs.Store.{first_byte}
use Rattle.states.proofs.Contents.{cell_head}
use Rattle.states.proofs.cells.Cells.is_free.Goals as goal

pub bounds-cell_at-0 : goal.bounds-cell_at-0
bounds-cell_at-0 c =
    let h = cell_head c.args.self.now.bytes.now c.args.i c.requires c.args.self.now.whole in
    omega (arith, h, ap length c.cell_at.ensures)

pub returns : goal.returns
unfolding first_byte
returns c = rw c.cell_at.ensures refl
