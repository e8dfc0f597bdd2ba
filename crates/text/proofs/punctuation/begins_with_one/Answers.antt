-- `text::punctuation::begins_with_one` meets its contract. Assumes nothing.
use Rattle.std.proofs.Common.{rules}
use Rattle.std.proofs.lemmas.Iterator.{YieldsList-from_slice}
use Rattle.reference.specs.Text.{starts_with}
use Rattle.laws.proofs.Std.{any_by}
use Rattle.text.proofs.punctuation.begins_with_one.Goals as goal

pub returns : goal.returns
returns c = any_by (λ t. starts_with c.args.s.now t.now) _ _ c.any.ensures.ran (YieldsList-from_slice _ (search rules)) (λ x b q k. search rules)
