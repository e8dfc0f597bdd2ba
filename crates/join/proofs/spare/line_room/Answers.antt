-- `join::spare::line_room` meets its contract. Assumes nothing.
use native.Mathlib.Omega.{arith}
use mathlib.Core.Path.{sym}
use Rattle.lines.specs.Lines.{part_of}
use Rattle.join.proofs.Sparing.{part-short, text_most, room_is}
use Rattle.join.proofs.spare.line_room.Goals as goal

pub text_length-requires : goal.text_length-requires
text_length-requires c =
    let part = part_of c.args.tokens.now c.args.l in
    rw c.line_of-line.ensures (omega (arith, text_most part, part-short c.args.tokens.now c.args.l))

pub overflow_mul-result : goal.overflow_mul-result
overflow_mul-result c = rw c.line_of-line.ensures (omega (arith, part-short c.args.tokens.now c.args.l))

pub overflow_add-result : goal.overflow_add-result
overflow_add-result c =
    let part = part_of c.args.tokens.now c.args.l in
    rw (c.text_length.ensures, c.line_of-line.ensures) (omega (arith, text_most part, part-short c.args.tokens.now c.args.l))

pub returns : goal.returns
returns c = rw (c.text_length.ensures, c.line_of-line.ensures) (sym (room_is (part_of c.args.tokens.now c.args.l)))
