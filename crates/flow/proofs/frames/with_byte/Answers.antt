-- `flow::frames::with_byte` meets its contract. Assumes nothing.
use borrow.Author.Rules.{rules}
use Rattle.flow.proofs.Framing.{inner_byte, outer_byte, not_outer, too_deep}
use Rattle.flow.proofs.frames.with_byte.Goals as goal
use Rattle.flow.proofs.frames.with_byte.Goals.{else-f-eq0-via-then-f-eq0+else-not-has_byte, else-f-eq0-via-else-f-eq0}

pub returns-then-not-has_byte-clause-is : goal.returns-then-not-has_byte-clause-is
returns-then-not-has_byte-clause-is c = λ s. outer_byte c.args.f c.with_outer.result c.args.b s c.if-f-eq0.true (search rules) c.with_outer.ensures

pub returns-else-f-eq0-clause-is : goal.returns-else-f-eq0-clause-is
returns-else-f-eq0-clause-is c =
    let f = c.args.f in
    λ s. rw c.deeper.ensures.is (inner_byte f c.args.b s
    (elim c.else-f-eq0.branch [
      | else-f-eq0-via-then-f-eq0+else-not-has_byte w ↦ not_outer f.depth c.args.b w.has_byte.ensures (search rules)
      | else-f-eq0-via-else-f-eq0 w ↦ too_deep f.depth _ w.if-f-eq0.false
    ]))
