-- `states::calls::take` meets its contract. Assumes nothing.
use Prim.Native.Nat.{◌+◌}
use native.Mathlib.Omega.{arith}
use borrow.Author.Rules.{rules}
use mathlib.Core.Path.{◌∙◌}
use lib.ListN.{length}
use Rattle.text.specs.Cursor.{Fits}
use Rattle.states.proofs.Contents.{cell-ends, room_is}
use Rattle.states.proofs.Writing.{stored, name-room, body-room, cell_puts}
use Rattle.states.proofs.calls.take.Goals as goal

pub put_byte-requires : goal.put_byte-requires
put_byte-requires c =
    let e = c.new-out.ensures in
    rw (e.from, e.same_bytes) (omega (arith, c.cell_start.ensures, cell-ends c.args.i c.requires.0.below, c.requires.0.whole, room_is))

pub put-requires : goal.put-requires
put-requires c =
    let e = c.new-out.ensures in
    let room : Fits c.new-out.result (13 + length c.args.tape.now) =
    rw (e.from, e.same_bytes) (omega (arith, c.cell_start.ensures, cell-ends c.args.i c.requires.0.below, c.requires.0.whole, c.requires.2, room_is)) in
    name-room c.args.name.now c.args.tape.now c.requires.1 room c.put_byte.ensures

pub put_body-requires : goal.put_body-requires
put_body-requires c =
    let e = c.new-out.ensures in
    let room : Fits c.new-out.result (13 + length c.args.tape.now) =
    rw (e.from, e.same_bytes) (omega (arith, c.cell_start.ensures, cell-ends c.args.i c.requires.0.below, c.requires.0.whole, c.requires.2, room_is)) in
    body-room c.args.name.now c.args.tape.now c.requires.1 room c.put_byte.ensures c.put.ensures

pub returns : goal.returns
returns c =
    let e = c.new-out.ensures in
    let room : Fits c.new-out.result (13 + length c.args.tape.now) =
    rw (e.from, e.same_bytes) (omega (arith, c.cell_start.ensures, cell-ends c.args.i c.requires.0.below, c.requires.0.whole, c.requires.2, room_is)) in
    let puts = cell_puts c.args.name.now c.args.tape.now c.requires.1 room c.put_byte.ensures c.put.ensures c.put_body.ensures in
    stored puts e.same_bytes (e.from ∙ c.cell_start.ensures) (search rules)
