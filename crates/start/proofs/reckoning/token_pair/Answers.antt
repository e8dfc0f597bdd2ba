-- `start::reckoning::token_pair` meets its contract. Assumes nothing.
use mathlib.Core.Path.{sym, ap, ◌∙◌}
use Rattle.reference.specs.Numbers.{parse_c_number}
use Rattle.start.specs.Pairs.{start_pairs}
use Rattle.start.proofs.Pricing.{prices_number, prices_other}
use Rattle.start.proofs.reckoning.token_pair.Goals as goal

pub returns-then-kind-eq-NUMBER : goal.returns-then-kind-eq-NUMBER
returns-then-kind-eq-NUMBER c = λ es q.
    prices_number _ _ _ _ (sym c.kind.ensures ∙ c.if-kind-eq-NUMBER.true) _
    (λ z e. c.number_value.ensures z (ap parse_c_number c.text-s.ensures ∙ e))

pub returns : goal.returns
returns c = λ es q.
    prices_other _ _ _ _ (λ e. c.if-kind-eq-NUMBER.false (c.kind.ensures ∙ e)) _
    (c.start_pair.ensures es q ∙ ap (start_pairs _ es) c.text-s.ensures)
