-- What the loop of `names::families::legacy_in` keeps true.
use Rattle.names.proofs.Tables.{Listed-from}
use Rattle.names.proofs.families.legacy_in.Given as goal

abbrev pub invariant-loop-row : goal.invariant-loop-row
invariant-loop-row l = Listed-from l.table l.s l.row
