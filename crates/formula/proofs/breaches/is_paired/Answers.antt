-- `formula::breaches::is_paired` meets its contract. Assumes nothing.
use Rattle.formula.proofs.Testing.{paired_some, paired_none}
use Rattle.formula.proofs.breaches.is_paired.Goals as goal

pub returns-in-Some : goal.returns-in-Some
returns-in-Some c = paired_some _ c.open_behind.ensures c.in-Some.n c.in-Some.is

pub returns-in-None : goal.returns-in-None
returns-in-None c = paired_none _ c.open_behind.ensures c.in-None.is
