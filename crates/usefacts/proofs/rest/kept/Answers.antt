-- `usefacts::rest::kept` meets its contract. Assumes nothing.
use Rattle.usefacts.proofs.Resting.{kept_some, kept_inside}
use Rattle.usefacts.proofs.rest.kept.Goals as goal

pub returns-in-Some-clause-is : goal.returns-in-Some-clause-is
returns-in-Some-clause-is c = kept_some _ _ _ c.kw_at.ensures c.in-Some.is

pub returns-in-Some-clause-inside : goal.returns-in-Some-clause-inside
returns-in-Some-clause-inside c = kept_inside _ _ _ c.kw_at.ensures c.in-Some.is
