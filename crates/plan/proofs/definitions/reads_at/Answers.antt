-- `plan::definitions::reads_at` meets its contract. Assumes nothing.
use Rattle.std.proofs.Common.{rules, arith}
use Rattle.lines.proofs.shapes.Right.{expr-points, expr-below}
use Rattle.plan.proofs.Defining.{before-points, reading}
use Rattle.plan.proofs.definitions.reads_at.Goals as goal

pub has-requires : goal.has-requires
has-requires c = (search (rules, expr-points), omega arith)

pub has-requires-in-1 : goal.has-requires-in-1
has-requires-in-1 c = (search (rules, expr-points), omega arith)

pub has-requires-else-k-eq0 : goal.has-requires-else-k-eq0
has-requires-else-k-eq0 c = (search (rules, before-points), omega arith)

pub returns-in-3 : goal.returns-in-3
returns-in-3 c = search (rules, reading)

pub returns-in-1 : goal.returns-in-1
returns-in-1 c = search (rules, reading)

pub returns-then-k-eq0 : goal.returns-then-k-eq0
returns-then-k-eq0 c = search (rules, reading)

pub returns-else-k-eq0 : goal.returns-else-k-eq0
returns-else-k-eq0 c = search (rules, reading, expr-below)

pub returns-in_default : goal.returns-in_default
returns-in_default c = search (rules, reading)
