-- `numbers::constant::digit` meets its contract. Assumes nothing.
use Rattle.std.proofs.Common.{◌≡◌, ◌∙◌}
use Rattle.numbers.proofs.Reading.{value, worth, no_digit, a_digit}
use Rattle.numbers.proofs.constant.digit.Goals.{After-from-d}
use Rattle.numbers.proofs.constant.digit.Goals as goal

is_value : (c : After-from-d) → c.from-d.result ≡ value c.args.b
is_value c = c.from-d.ensures ∙ c.unwrap_or.ensures ∙ worth c.args.b c.to_digit.result (rw c.from.ensures at c.to_digit.ensures.value)

pub returns-then-d-radix : goal.returns-then-d-radix
returns-then-d-radix c = a_digit c.args.radix c.args.b (is_value c.before) c.if-d-radix.true

pub returns-else-d-radix : goal.returns-else-d-radix
returns-else-d-radix c = no_digit c.args.radix c.args.b (is_value c.before) c.if-d-radix.false
