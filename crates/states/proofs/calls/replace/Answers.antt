-- `states::calls::replace` meets its contract. Assumes nothing.
use native.Mathlib.Omega.{arith}
use borrow.Author.Rules.{rules}
use mathlib.Core.Path.{◌∙◌}
use Rattle.states.proofs.Contents.{cell-ends, store-fits, room_is}
use Rattle.states.proofs.Writing.{stored}
use Rattle.states.proofs.calls.replace.Goals as goal

pub overflow_add-cell_start : goal.overflow_add-cell_start
overflow_add-cell_start c =
    omega (arith, c.cell_start.ensures, cell-ends c.args.i c.requires.0.below, store-fits)

pub put_body-requires : goal.put_body-requires
put_body-requires c =
    let e = c.new-out.ensures in
    rw (e.from, e.same_bytes) (omega (arith, c.cell_start.ensures, cell-ends c.args.i c.requires.0.below, c.requires.0.whole, c.requires.1, room_is))

pub returns : goal.returns
returns c =
    let e = c.new-out.ensures in
    stored c.put_body.ensures e.same_bytes (e.from ∙ rw c.cell_start.ensures) (search rules)
