-- `cuts::keeps_result` meets its contract. Assumes nothing.
use Rattle.std.proofs.Common.{arith}
use Rattle.reference.specs.Control.{◌and◌}
use Rattle.cuts.proofs.Cutting.{keeps_is}
use Rattle.cuts.proofs.keeps_result.Goals as goal

pub returns-then-is_result_name : goal.returns-then-is_result_name
unfolding ◌and◌
returns-then-is_result_name c = let t = c.args.texts.now in let k = keeps_is t.tape.now t.area.now c.args.line.now _ c.call_at.ensures in grind arith

pub returns-else-is_result_name : goal.returns-else-is_result_name
unfolding ◌and◌
returns-else-is_result_name c = let t = c.args.texts.now in let k = keeps_is t.tape.now t.area.now c.args.line.now _ c.call_at.ensures in grind arith
