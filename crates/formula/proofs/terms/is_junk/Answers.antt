-- `formula::terms::is_junk` meets its contract. Assumes nothing.
use Rattle.formula.proofs.Junk.{junk-punct, junk-other}
use Rattle.std.proofs.Common.{rules}
use Rattle.formula.proofs.terms.is_junk.Goals as goal

pub returns-then-kind-ne-PUNCT : goal.returns-then-kind-ne-PUNCT
returns-then-kind-ne-PUNCT c = search (rules, junk-other)

pub returns-else-kind-ne-PUNCT : goal.returns-else-kind-ne-PUNCT
returns-else-kind-ne-PUNCT c = search (rules, junk-punct)
