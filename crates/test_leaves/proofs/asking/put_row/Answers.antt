-- `test_leaves::asking::put_row` meets its contract: each family of the table has three bytes. Assumes nothing.
use mathlib.Core.Path.{sym}
use native.Mathlib.Omega.{arith}
use Rattle.test_leaves.proofs.Answering.{row-length}
use Rattle.test_leaves.proofs.asking.put_row.Goals as goal

pub slice_bounds-put_register-end : goal.slice_bounds-put_register-end
slice_bounds-put_register-end c =
    sym (row-length c.args.row c.requires.0)

pub put_register-requires : goal.put_register-requires
put_register-requires c =
    omega (arith, row-length c.args.row c.requires.0)
