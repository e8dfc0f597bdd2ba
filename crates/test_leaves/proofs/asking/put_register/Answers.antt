-- `test_leaves::asking::put_register` meets its contract. Assumes nothing.
use Rattle.std.proofs.Common.{arith}
use Rattle.test_leaves.proofs.Answering.{mark_room, width_room, register-put}
use Rattle.test_leaves.proofs.asking.put_register.Goals as goal

pub put-requires-2 : goal.put-requires-2
put-requires-2 c = omega (arith, mark_room c.args.family.now c.requires c.put.ensures)

pub put_decimal-requires : goal.put_decimal-requires
put_decimal-requires c = width_room c.args.family.now c.requires c.put.ensures c.put-2.ensures

pub returns : goal.returns
returns c = register-put c.args.family.now c.requires c.put.ensures c.put-2.ensures c.args.width c.put_decimal.ensures
