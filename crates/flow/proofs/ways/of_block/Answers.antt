-- `flow::ways::of_block` meets its contract. Assumes nothing.
use mathlib.Core.Path.{refl}
use native.Mathlib.Omega.{arith}
use Rattle.reference.specs.Control.{let_some◌else◌then◌}
use Rattle.flow.proofs.Tables.{table_few, table_closer, closer_inside}
use Rattle.flow.proofs.ways.of_block.Goals as goal

pub closer-requires : goal.closer-requires
closer-requires c = let t = c.requires.0 in (table_few c.args.g.now t, omega (arith, t.table.long), omega (arith, t.table.long, t.short))

pub in_block-requires : goal.in_block-requires
in_block-requires c = let t = c.requires.0 in
    let h = closer_inside c.args.g.now c.args.k (omega (arith, t.table.long)) c.closer.ensures c.in-Some.is in
    (t, c.requires.1, omega (arith, h, t.table.long))

pub returns-in-None : goal.returns-in-None
unfolding let_some◌else◌then◌
returns-in-None c = let e = table_closer c.args.g.now c.args.k c.requires.0 c.closer.result c.closer.ensures in rw (← e, c.in-None.is) refl

pub returns-in-Some : goal.returns-in-Some
unfolding let_some◌else◌then◌
returns-in-Some c = let e = table_closer c.args.g.now c.args.k c.requires.0 c.closer.result c.closer.ensures in rw (← e, c.in-Some.is) c.in_block.ensures
