-- `flow::opaque::holds` meets its contract. Assumes nothing.
use borrow.Author.Rules.{rules}
use mathlib.Core.Path.{◌∙◌}
use Rattle.laws.proofs.Parts.{to_end}
use Rattle.flow.proofs.Strange.{holds_here, holds_further, holds_end, no_bytes}
use Rattle.flow.proofs.opaque.holds.Goals as goal

pub returns-then-starts : goal.returns-then-starts
returns-then-starts c =
    let a = c.args in
    let k = c.loop-k.k in
    holds_here a.p.now a.s.now k c.loop-k-test.true (rw (to_end k a.s.now) at c.starts.ensures) (search rules) c.loop-k.invariant

pub loop-k-preserved : goal.loop-k-preserved
loop-k-preserved c =
    let a = c.args in
    let k = c.loop-k.k in
    holds_further a.p.now a.s.now k c.loop-k-test.true (rw (to_end k a.s.now) at c.starts.ensures) (search rules) c.loop-k.invariant

pub returns : goal.returns
returns c = c.is_empty.ensures ∙ no_bytes c.args.p.now ∙ holds_end _ _ _ c.loop-k-test.false c.loop-k.invariant
