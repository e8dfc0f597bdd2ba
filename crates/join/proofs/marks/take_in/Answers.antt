-- `join::marks::take_in` meets its contract. Assumes nothing.
use Rattle.std.proofs.lemmas.List.{map-set}
use Rattle.join.proofs.Carrying.{low_at, high_at}
use Rattle.join.proofs.marks.take_in.Goals as goal

pub returns-clause-lows_after : goal.returns-clause-lows_after
returns-clause-lows_after c = rw (map-set, c.joined.ensures, low_at)

pub returns-clause-highs_after : goal.returns-clause-highs_after
returns-clause-highs_after c = rw (map-set, c.joined.ensures, high_at)
