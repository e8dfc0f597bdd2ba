-- `flow::opaque::has_register_call` meets its contract. Assumes nothing.
use borrow.Author.Rules.{rules}
use Rattle.cautions.specs.Texts.{calls_register}
use Rattle.flow.proofs.Strange.{found_by}
use Rattle.flow.proofs.opaque.has_register_call.Goals as goal

pub returns : goal.returns
returns c = found_by calls_register _ (search rules)
