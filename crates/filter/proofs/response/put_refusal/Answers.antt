-- `filter::response::put_refusal` meets its contract. Assumes nothing.
use Rattle.std.proofs.Common.{arith, rules}
use Rattle.filter.proofs.Responding.{at_front, front_room, number_room, mark_room, place_room, refusal-put}
use Rattle.filter.proofs.response.put_refusal.Goals as goal

pub put-requires-2 : goal.put-requires-2
put-requires-2 c =
    let n = c.new-out.ensures in
    omega (arith, number_room c.number.result c.put.ensures c.put_decimal.ensures (front_room c.new-out.result n.same_bytes n.from c.requires))

pub put_decimal-requires-2 : goal.put_decimal-requires-2
put_decimal-requires-2 c =
    let n = c.new-out.ensures in
    omega (arith, mark_room c.number.result c.put.ensures c.put_decimal.ensures (front_room c.new-out.result n.same_bytes n.from c.requires) c.put-2.ensures)

pub put-requires-3 : goal.put-requires-3
put-requires-3 c =
    let n = c.new-out.ensures in
    place_room c.number.result c.put.ensures c.put_decimal.ensures (front_room c.new-out.result n.same_bytes n.from c.requires)
    c.put-2.ensures c.args.refused.place c.put_decimal-2.ensures

pub returns : goal.returns
returns c =
    let n = c.new-out.ensures in
    at_front n.same_bytes n.from
    (rw c.number.ensures at (refusal-put c.number.result c.put.ensures c.put_decimal.ensures (front_room c.new-out.result n.same_bytes n.from c.requires)
    c.put-2.ensures c.args.refused.place c.put_decimal-2.ensures c.put-3.ensures))
    (search rules)
