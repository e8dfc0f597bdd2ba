-- `rounds::rounds::turns` meets its contract. Assumes nothing.
use Rattle.raising.proofs.Lending.{same_tables, tables_then}
use Rattle.rounds.proofs.Lending.{lent_same, lent_then, attempt_again}
use Rattle.rounds.proofs.Turning.{rounding_begin, rounding_counts, rounding_next, rounding_less, rounding_end}
use Rattle.rounds.proofs.rounds.turns.Goals as goal

pub loop-r-init : goal.loop-r-init
loop-r-init c = let p = c.requires in (rounding_begin p.0 p.1, lent_same c.args.room.now, same_tables c.args.raising.now)

pub turn-r-requires : goal.turn-r-requires
turn-r-requires c =
    let i = c.loop-r.invariant in
    (attempt_again i.1 i.0.current i.0.limits c.requires.0 i.0.labelled, c.loop-r-test.true, rounding_counts i.0, i.0.kept)

pub loop-r-smaller : goal.loop-r-smaller
loop-r-smaller c = let i = c.loop-r.invariant in rounding_less i.0 i.2 c.loop-r-test.true c.turn-r.ensures.turned

pub loop-r-preserved : goal.loop-r-preserved
loop-r-preserved c =
    let i = c.loop-r.invariant in
    let t = c.turn-r.ensures in
    (rounding_next i.0 i.2 c.loop-r-test.true t.turned, lent_then i.1 t.lent, tables_then i.2 t.lent_raising)

pub returns : goal.returns
returns c = let i = c.loop-r.invariant in record { made = rounding_end i.0 c.loop-r-test.false; lent = i.1; lent_raising = i.2 }
