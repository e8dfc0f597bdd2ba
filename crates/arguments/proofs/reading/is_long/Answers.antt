-- `arguments::reading::is_long` meets its contract. Assumes nothing.
use Rattle.std.proofs.Common.{◌∙◌}
use Rattle.reference.specs.Text.{bytes}
use Rattle.laws.proofs.Std.{starts-std}
use Rattle.arguments.proofs.reading.is_long.Goals as goal

pub returns : goal.returns
returns c = c.starts_with.ensures.value ∙ starts-std c.args.word.now (bytes "--")
