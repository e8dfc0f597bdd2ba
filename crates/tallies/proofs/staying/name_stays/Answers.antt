-- `tallies::staying::name_stays` meets its contract. Assumes nothing.
use mathlib.Core.Path.{refl}
use Rattle.reference.specs.Control.{let_some◌else◌then◌}
use Rattle.tallies.proofs.staying.name_stays.Goals as goal

pub returns-in-Some : goal.returns-in-Some
unfolding let_some◌else◌then◌
returns-in-Some c = rw (c.in-Some.is, c.count_calls.ensures, c.count_calls-in-Some.ensures) refl

pub returns-in-None : goal.returns-in-None
unfolding let_some◌else◌then◌
returns-in-None c = rw c.in-None.is refl
