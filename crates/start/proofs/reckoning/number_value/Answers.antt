-- `start::reckoning::number_value` meets its contract. Assumes nothing.
use mathlib.Core.Path.{ap, ◌∙◌}
use borrow.Author.Rules.{rules}
use mir.Syntax.{w64}
use mir.Val.{of_z}
use Rattle.numbers.proofs.Signed.{read_back}
use Rattle.reference.specs.Evaluators.{of_integer}
use Rattle.start.proofs.Pricing.{bits_are, number_read}
use Rattle.start.proofs.reckoning.number_value.Goals as goal

pub returns : goal.returns
returns c = λ z e.
    c.cast_unsigned.ensures
    ∙ ap (of_z w64) (read_back c.unwrap_or.result (search rules))
    ∙ bits_are c.unwrap_or.result (search rules)
    ∙ ap of_integer (c.unwrap_or.ensures ∙ number_read c.parse_c_number.result c.parse_c_number.ensures z e)
