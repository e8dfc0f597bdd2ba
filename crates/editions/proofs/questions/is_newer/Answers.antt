-- `editions::questions::is_newer` meets its contract. Assumes nothing.
use mathlib.Core.Path.{◌∙◌}
use Rattle.laws.proofs.Std.{contains-std}
use Rattle.laws.proofs.Scans.{or_first, or_second}
use Rattle.editions.specs.Numbers.{is_newer}
use Rattle.editions.proofs.questions.is_newer.Goals as goal

pub returns-then-is_binary : goal.returns-then-is_binary
unfolding is_newer
returns-then-is_binary c = or_first _ c.is_binary.ensures c.if-is_binary.true

pub returns-else-is_binary : goal.returns-else-is_binary
unfolding is_newer
returns-else-is_binary c =
    or_second c.is_binary.ensures c.if-is_binary.false (c.contains.ensures.value ∙ contains-std c.args.s.now 39)
