-- `page::signs::put_kind` meets its contract. Assumes nothing.
use Rattle.std.proofs.Common.{arith, ap, length, ◌≤◌}
use Rattle.text.proofs.Cursors.{then_puts, puts_as, room_left}
use Rattle.page.specs.Escaping.{escaped}
use Rattle.page.specs.Signs.{kind_cell}
use Rattle.page.proofs.Escaped.{escaped-length}
use Rattle.caution_words.proofs.Telling.{name-length, sentence-length}
use Rattle.page.proofs.signs.put_kind.Goals as goal

pub put-requires-2 : goal.put-requires-2
put-requires-2 c = room_left c.put.ensures _ (omega (arith, c.requires, ap length c.name.ensures, name-length c.args.kind))

pub put-requires-3 : goal.put-requires-3
put-requires-3 c =
    room_left c.put-2.ensures _ (room_left c.put.ensures _ (omega (arith, c.requires, ap length c.name.ensures, name-length c.args.kind)))

pub put_escaped-requires : goal.put_escaped-requires
put_escaped-requires c =
    let a = room_left c.put.ensures 1494 (omega (arith, c.requires)) in
    let b = room_left c.put-2.ensures 1483 (omega (arith, a, ap length c.name.ensures, name-length c.args.kind)) in
    room_left c.put-3.ensures _ (omega (arith, b, ap length c.sentence.ensures, sentence-length c.args.kind))

pub put-requires-4 : goal.put-requires-4
put-requires-4 c =
    let a = room_left c.put.ensures 1494 (omega (arith, c.requires)) in
    let b = room_left c.put-2.ensures 1483 (omega (arith, a, ap length c.name.ensures, name-length c.args.kind)) in
    let d = room_left c.put-3.ensures 1470 (omega (arith, b)) in
    room_left c.put_escaped.ensures _
    (omega (arith, d, ap length c.sentence.ensures, sentence-length c.args.kind, escaped-length c.sentence.result.now))

pub returns : goal.returns
unfolding kind_cell
returns c =
    let h : c.args.out.now.at ≤ length c.args.out.now.out.now = omega (arith, c.requires) in
    let named = then_puts (then_puts c.put.ensures h (puts_as c.put-2.ensures c.name.ensures)) h c.put-3.ensures in
    then_puts (then_puts named h (puts_as c.put_escaped.ensures (ap escaped c.sentence.ensures))) h c.put-4.ensures
