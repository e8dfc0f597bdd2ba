-- `test_leaves::asking::convention` meets its contract. Assumes nothing.
use mathlib.Core.Path.{sym, ◌∙◌}
use Rattle.test_leaves.proofs.Answering.{convention_0, convention_1, convention_2}
use Rattle.test_leaves.proofs.asking.convention.Goals as goal

pub returns-then-same : goal.returns-then-same
returns-then-same c = convention_0 _ (sym c.same.ensures ∙ c.if-same.true)

pub returns-then-same-2 : goal.returns-then-same-2
returns-then-same-2 c =
    convention_1 _ (sym c.same.ensures ∙ c.if-same.false) (sym c.same-else-same.ensures ∙ c.if-same-2.true)

pub returns-else-same-2 : goal.returns-else-same-2
returns-else-same-2 c =
    convention_2 _ (sym c.same.ensures ∙ c.if-same.false) (sym c.same-else-same.ensures ∙ c.if-same-2.false)
