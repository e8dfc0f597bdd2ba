-- `join::spare::is_enough` meets its contract. Assumes nothing.
use native.Mathlib.Omega.{arith}
use lib.ListN.{get_or}
use Rattle.join.proofs.Sparing.{line_most, need_short, need_less, need_all}
use Rattle.join.proofs.spare.is_enough.Goals as goal

pub overflow_add-need : goal.overflow_add-need
overflow_add-need c =
    omega (arith, c.line_room-base.ensures, c.line_room.ensures, line_most c.args.tokens.now c.args.source, line_most c.args.tokens.now (get_or c.args.lines.now c.loop-l.l-index 0))

pub returns-then-left-need : goal.returns-then-left-need
returns-then-left-need c =
    let a = c.args in
    let l = c.loop-l in
    need_short a.tokens.now a.source a.lines.now l.l-index l.left a.n l.invariant c.loop-l-test.true
    (omega (arith, c.if-left-need.true, c.line_room-base.ensures, c.line_room.ensures))

pub loop-l-preserved : goal.loop-l-preserved
loop-l-preserved c =
    let a = c.args in
    let l = c.loop-l in
    rw (c.line_room-base.ensures, c.line_room.ensures)
    (need_less a.tokens.now a.source a.lines.now l.l-index l.left a.n l.invariant c.loop-l-test.true
    (omega (arith, c.if-left-need.false, c.line_room-base.ensures, c.line_room.ensures)))

pub returns : goal.returns
returns c =
    let a = c.args in
    let l = c.loop-l in
    need_all a.tokens.now a.source a.lines.now l.l-index l.left a.n l.invariant c.loop-l-test.false
