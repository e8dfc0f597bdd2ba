-- `formula::terms::is_number` meets its contract. Assumes nothing.
use Rattle.formula.proofs.Worthy.{number_kind, number_untidy, number_parsed}
use Rattle.std.proofs.Common.{rules, ◌∙◌}
use Rattle.formula.proofs.terms.is_number.Goals as goal

pub returns-then-kind-ne-NUMBER : goal.returns-then-kind-ne-NUMBER
returns-then-kind-ne-NUMBER c = search (rules, number_kind)

pub returns-then-is_tidy : goal.returns-then-is_tidy
returns-then-is_tidy c = c.is_some.ensures ∙ search (rules, number_parsed)

pub returns-else-is_tidy : goal.returns-else-is_tidy
returns-else-is_tidy c = search (rules, number_untidy)
