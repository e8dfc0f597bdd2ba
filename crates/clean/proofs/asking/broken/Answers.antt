-- `clean::asking::broken` meets its contract. Assumes nothing.
use native.Mathlib.Omega.{arith}
use Rattle.formula.proofs.Loading.{filled, breaks_is}
use Rattle.tables.proofs.loading.Loaded.{loaded-limits}
use borrow.Author.Rules.{rules}
use Rattle.clean.proofs.asking.broken.Goals as goal

pub shared_ref_as_front-breaks : goal.shared_ref_as_front-breaks
shared_ref_as_front-breaks c = omega (arith, loaded-limits c.requires)

pub shared_ref_as_front-breaks-2 : goal.shared_ref_as_front-breaks-2
shared_ref_as_front-breaks-2 c = omega (arith, loaded-limits c.requires)

pub breaks-requires : goal.breaks-requires
breaks-requires c = search (rules, filled)

pub returns : goal.returns
returns c = search (rules, breaks_is)
