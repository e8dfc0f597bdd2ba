-- `editions::texts::put_constant` meets its contract. Assumes nothing.
use Rattle.editions.proofs.Putting.{plain-put, front_fits, row_read, row_room, row-unread}
use Rattle.editions.proofs.texts.put_constant.Goals as goal

pub returns-then-not-begins_binary : goal.returns-then-not-begins_binary
returns-then-not-begins_binary c =
    plain-put _ c.begins_binary.ensures c.requires.0 c.if-not-begins_binary.true c.put_unquoted.ensures

pub slice_bounds-row-count : goal.slice_bounds-row-count
slice_bounds-row-count c =
    front_fits c.args.s.now c.begins_binary.ensures c.requires.0 c.if-not-begins_binary.false

pub slice_bounds-row-start : goal.slice_bounds-row-start
slice_bounds-row-start c = slice_bounds-row-count c

pub put_hexadecimal-requires : goal.put_hexadecimal-requires
put_hexadecimal-requires c =
    row_room c.args.s.now c.begins_binary.ensures c.requires.0 c.if-not-begins_binary.false c.args.out.now c.in-Some.ensures c.requires.1

pub returns-in-Some : goal.returns-in-Some
returns-in-Some c =
    rw (row_read c.args.s.now c.begins_binary.ensures c.requires.0 c.if-not-begins_binary.false c.in-Some.ensures) c.put_hexadecimal.ensures

pub returns-in_default : goal.returns-in_default
returns-in_default c =
    absurd (row-unread c.args.s.now c.begins_binary.ensures c.requires.0 c.if-not-begins_binary.false c.in_default.ensures)
