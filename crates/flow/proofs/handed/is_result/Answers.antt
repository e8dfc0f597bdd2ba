-- `flow::handed::is_result` meets its contract. Assumes nothing.
use Rattle.lines.specs.Texts.{bare_listing}
use Rattle.flow.proofs.Handing.{result_in, result_not}
use Rattle.flow.proofs.handed.is_result.Goals as goal

pub returns-then-f-eq-RAX : goal.returns-then-f-eq-RAX
returns-then-f-eq-RAX c = let a = c.args in result_in _ _ a.f c.requires.1 (bare_listing a.listing.now) c.if-f-eq-RAX.true c.is_void.ensures

pub returns-else-f-eq-RAX : goal.returns-else-f-eq-RAX
returns-else-f-eq-RAX c = let a = c.args in result_not _ _ a.f c.requires.1 (bare_listing a.listing.now) c.if-f-eq-RAX.false
