-- `listing_text::fields::kind_of` meets its contract. Assumes nothing.
use Rattle.std.proofs.Common.{rules, eqb}
use Rattle.std.proofs.lemmas.Iterator.{YieldsList-from_slice}
use Rattle.laws.proofs.Std.{position_by}
use Rattle.listing_text.specs.Forms.{letters}
use Rattle.listing_text.proofs.fields.kind_of.Goals as goal

pub returns-clause-is : goal.returns-clause-is
returns-clause-is c = position_by {xs = letters} (eqb c.args.letter) _ _ c.position.ensures.ran (YieldsList-from_slice _ (search rules)) (λ x b q k. search rules)
