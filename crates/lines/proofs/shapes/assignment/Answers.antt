-- `lines::shapes::assignment` meets its contract. Assumes nothing.
use borrow.Author.Rules.{rules}
use Rattle.lines.proofs.shapes.Sides.{sides, opens, assigned-short, assigned-next, assigned-rest}
use native.Mathlib.Omega.{arith}
use Rattle.lines.proofs.shapes.assignment.Goals.{then-len-eq3, else-len-eq3}
use Rattle.lines.proofs.shapes.assignment.Goals as goal

pub returns-in_default : goal.returns-in_default
returns-in_default c = let h = c.in_default.len_below in assigned-short c.requires (omega arith)

pub returns-then-not-begins_assignment : goal.returns-then-not-begins_assignment
returns-then-not-begins_assignment c = let h = c.in-len2-up.len_at_least in search (rules, sides)

pub right_side-requires : goal.right_side-requires
right_side-requires c = (
  opens c.requires (omega (arith, c.in-len2-up.len_at_least)) c.begins_assignment.ensures c.if-not-begins_assignment.false,
  elim c.if-len-eq3.branch [ then-len-eq3 w ↦ omega arith | else-len-eq3 w ↦ omega arith ],
  elim c.if-len-eq3.branch [ then-len-eq3 w ↦ omega arith | else-len-eq3 w ↦ omega arith ],
)

pub returns : goal.returns
returns c =
    elim c.if-len-eq3.branch [
      | then-len-eq3 w ↦
          let s = rw w.right_side-is at c.right_side.ensures in
          assigned-next c.requires (omega (arith, c.in-len2-up.len_at_least)) c.begins_assignment.ensures c.if-not-begins_assignment.false c.len.ensures w.if-len-eq3.true s
      | else-len-eq3 w ↦
          let s = rw w.right_side-is at c.right_side.ensures in
          assigned-rest c.requires (omega (arith, c.in-len2-up.len_at_least)) c.begins_assignment.ensures c.if-not-begins_assignment.false c.len.ensures w.if-len-eq3.false s
    ]
