-- `arguments::entries::equals_at` meets its contract. Assumes nothing.
use Rattle.std.proofs.Common.{ap, ◌∙◌, length}
use Rattle.std.specs.Option.{unwrap_or}
use Rattle.arguments.proofs.Naming.{equals_or}
use Rattle.arguments.proofs.entries.equals_at.Goals as goal

pub returns-clause-value : goal.returns-clause-value
returns-clause-value c = let w = c.args.word.now in c.unwrap_or.ensures ∙ ap (λ o. unwrap_or o (length w)) c.equals_in.ensures ∙ equals_or w
