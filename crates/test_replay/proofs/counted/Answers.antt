-- `test_replay::counted` meets its contract. Assumes nothing.
use mathlib.Core.Path.{sym, ◌∙◌}
use Rattle.test_replay.proofs.Tallying.{other_class, one_more}
use Rattle.test_replay.proofs.counted.Goals as goal

pub returns-then-number-class-clause-value : goal.returns-then-number-class-clause-value
returns-then-number-class-clause-value c = other_class _ _ _ (λ e. c.if-number-class.true (c.number.ensures ∙ e))

pub returns-clause-value : goal.returns-clause-value
returns-clause-value c =
    one_more _ _ _ (sym c.number.ensures ∙ c.if-number-class.false) c.agrees_marked.ensures c.with.ensures.value
