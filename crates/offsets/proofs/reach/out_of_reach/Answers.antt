-- `offsets::reach::out_of_reach` meets its contract. Assumes nothing.
use mathlib.Core.Path.{◌∙◌}
use borrow.Author.Tests.{lt-ltb}
use Rattle.offsets.proofs.Searching.{below-base, above-base}
use Rattle.offsets.proofs.reach.out_of_reach.Goals as goal

pub returns-then-address-base : goal.returns-then-address-base
returns-then-address-base c = let a = c.args in lt-ltb _ _ c.if-address-base.true ∙ below-base a.base a.address c.if-address-base.true

pub returns-else-address-base : goal.returns-else-address-base
returns-else-address-base c = let a = c.args in above-base a.base a.address c.if-address-base.false
