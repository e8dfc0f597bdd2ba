-- `words::numerals::negated` meets its contract. Assumes nothing.
use Rattle.words.proofs.Digits.{negated_over, negated_is}
use Rattle.words.proofs.numerals.negated.Goals as goal

pub returns-then-v-gt9223372036854775808 : goal.returns-then-v-gt9223372036854775808
returns-then-v-gt9223372036854775808 c = negated_over c.args.v c.if-v-gt9223372036854775808.true

pub returns-else-v-gt9223372036854775808 : goal.returns-else-v-gt9223372036854775808
returns-else-v-gt9223372036854775808 c = negated_is c.args.v c.if-v-gt9223372036854775808.false c.wrapping_neg.type_inv c.wrapping_neg.ensures
