-- `flow::opaque::has_odd_byte` meets its contract. Assumes nothing.
use borrow.Author.Rules.{rules}
use Rattle.std.proofs.lemmas.Iterator.{YieldsList-from_slice}
use Rattle.laws.proofs.Std.{any_by}
use Rattle.flow.specs.Opaque.{is_odd_byte}
use Rattle.flow.proofs.opaque.has_odd_byte.Goals as goal

pub returns : goal.returns
returns c = any_by {xs = c.args.s.now} is_odd_byte _ _ c.any.ensures.ran (YieldsList-from_slice _ (search rules)) (λ x b q k. search rules)
