-- `states::cells::Cells::entry_at` meets its contract. Assumes nothing.
use Rattle.states.proofs.Contents.{cell_head}
use Rattle.states.proofs.Deciding.{within, past}
use mathlib.Core.Path.{ap, ◌∙◌}
use native.Mathlib.Omega.{arith}
use Rattle.states.specs.Store.{entry_in}
use Rattle.states.proofs.cells.Cells.entry_at.Goals as goal

pub entry_in-requires : goal.entry_in-requires
entry_in-requires c = rw c.cell_at.ensures (cell_head c.args.self.now.bytes.now c.args.i (omega arith) c.args.self.now.whole)

pub returns-then-i-lt8 : goal.returns-then-i-lt8
returns-then-i-lt8 c = c.entry_in.ensures ∙ ap entry_in c.cell_at.ensures ∙ within c.args.self.now.bytes.now c.args.i (omega arith)

pub returns-else-i-lt8 : goal.returns-else-i-lt8
returns-else-i-lt8 c = past c.args.self.now.bytes.now c.args.i (omega arith)
