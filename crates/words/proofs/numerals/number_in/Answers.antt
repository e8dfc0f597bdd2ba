-- `words::numerals::number_in` meets its contract. Assumes nothing.
use Rattle.std.proofs.Common.{◌∙◌}
use Rattle.words.proofs.Digits.{number_long, number-short}
use Rattle.words.proofs.numerals.number_in.Goals as goal

pub returns-then-word-gt16 : goal.returns-then-word-gt16
returns-then-word-gt16 c = number_long c.args.base c.args.word.now c.if-word-gt16.true

pub returns-else-word-gt16 : goal.returns-else-word-gt16
returns-else-word-gt16 c = c.unsigned_in.ensures ∙ number-short c.args.base c.args.word.now c.requires c.if-word-gt16.false
