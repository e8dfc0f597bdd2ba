-- `flow::comparing::with_byte` meets its contract. Assumes nothing.
use mathlib.Core.Path.{ap, ◌∙◌}
use mathlib.Core.Bool.{Bool}
use Rattle.reference.specs.Control.{◌or◌}
use Rattle.flow.specs.Compared.{begins_at, compared}
use Rattle.flow.proofs.Truths.{compared_more}
use Rattle.flow.proofs.comparing.with_byte.Goals as goal

pub returns : goal.returns
unfolding compared
returns c =
    let m = c.args.m in
    let found = c.found_by-found.ensures ∙ ap (λ (y : Bool). y or begins_at m.first m.second m.third c.args.b) c.found_at.ensures in
    λ s. compared_more m.first m.second m.third c.args.b m.begun m.found c.found_by-found.result s found
