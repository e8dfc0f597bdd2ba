-- `names::families::legacy_in` meets its contract. Assumes nothing.
use Rattle.std.proofs.Common.{sym, refl, rules}
use Rattle.names.proofs.Tables.{row_hit, row_miss, rows_end}
use Rattle.names.proofs.families.legacy_in.Goals as goal

pub returns-in-Some : goal.returns-in-Some
returns-in-Some c =
    row_hit c.args.table.now c.args.s.now c.loop-row.row (search rules) c.loop-row.invariant (sym c.in-Some.ensures.is) refl

pub loop-row-preserved : goal.loop-row-preserved
loop-row-preserved c =
    row_miss c.args.table.now c.args.s.now c.loop-row.row (search rules) c.loop-row.invariant (sym c.in_default.ensures.is)

pub returns : goal.returns
returns c = rows_end c.args.table.now c.args.s.now {i = c.loop-row.row} (search rules) c.loop-row.invariant
