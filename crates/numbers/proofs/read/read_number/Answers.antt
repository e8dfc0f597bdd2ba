-- `numbers::read::read_number` meets its contract. Assumes nothing.
use Rattle.std.proofs.Common.{◌∙◌}
use Rattle.numbers.proofs.Constants.{edition_0, edition_1}
use Rattle.numbers.proofs.read.read_number.Goals as goal

pub returns-then-edition-eq0 : goal.returns-then-edition-eq0
returns-then-edition-eq0 c = c.parse_c_number.ensures ∙ edition_0 _ _ c.if-edition-eq0.true

pub returns-else-edition-eq0 : goal.returns-else-edition-eq0
returns-else-edition-eq0 c = c.parse_2024.ensures ∙ edition_1 _ _ c.if-edition-eq0.false
