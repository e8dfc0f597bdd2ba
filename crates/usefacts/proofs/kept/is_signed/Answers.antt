-- `usefacts::kept::is_signed` meets its contract. Assumes nothing.
use borrow.Author.Rules.{rules}
use Rattle.std.proofs.lemmas.Iterator.{YieldsList-from_slice}
use Rattle.laws.proofs.Std.{any_by}
use Rattle.reference.specs.Text.{bytes, contains}
use Rattle.usefacts.specs.Uses.{is_signed}
use Rattle.usefacts.proofs.kept.is_signed.Goals as goal

pub returns : goal.returns
unfolding is_signed
returns c = any_by {xs = c.args.s.now} (λ x. contains (bytes "<>/%") x) _ _ c.any.ensures.ran (YieldsList-from_slice _ (search rules)) (λ x b q k. search rules)
