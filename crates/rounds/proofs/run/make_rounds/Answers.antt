-- `rounds::run::make_rounds` meets its contract. Assumes nothing.
use Rattle.std.proofs.Common.{rules, ◌≡◌, ◌+◌, ◌-◌, arith, refl}
use Rattle.raising.proofs.Lending.{same_tables, tables_then}
use Rattle.rounds.proofs.Lending.{lent_same, lent_then, runnable_again, gatherable_again}
use Rattle.rounds.proofs.Running.{going_begin, going_next, going_last, going_end}
use Rattle.rounds.proofs.run.make_rounds.Goals as goal

pub loop-init : goal.loop-init
loop-init c =
    let e : c.most_rounds-most.result - 0 ≡ c.most_rounds-most.result = omega arith in
    let p = c.requires in
    (rw e (going_begin p.0.current p.0.limits p.2 c.most_rounds-most.ensures), lent_same c.args.room.now, same_tables c.args.raising.now)

pub propagate_once-r-requires : goal.propagate_once-r-requires
propagate_once-r-requires c =
    let i = c.loop.invariant in
    (runnable_again i.1 i.0.current i.0.limits c.requires.0, gatherable_again c.requires.1 (search rules) (search rules) (search rules), i.0.kept)

pub loop-preserved : goal.loop-preserved
loop-preserved c =
    let i = c.loop.invariant in
    let p = c.propagate_once-r.ensures in
    let m = c.most_rounds-most.result in
    let e : m - (c.loop.counter + 1) ≡ m - c.loop.counter - 1 = omega arith in (
      rw (e, c.after_round-s.ensures) (going_next i.0 i.2 (omega (arith, c.loop-test.true)) p.made c.if-r-eq0.false),
      lent_then i.1 p.lent,
      tables_then i.2 p.lent_raising,
    )

pub returns-after-loop : goal.returns-after-loop
returns-after-loop c =
    let i = c.loop.invariant in
    record {
      rounded = going_end i.0 c.requires.0.current c.most_rounds-most.ensures (omega (arith, c.loop-test.false));
      lent = i.1;
      lent_raising = i.2;
    }

pub returns-then-r-eq0 : goal.returns-then-r-eq0
returns-then-r-eq0 c =
    let i = c.loop.invariant in
    let p = c.propagate_once-r.ensures in
    record {
      rounded =
          rw c.after_round-s.ensures
          (going_end (going_last i.0 i.2 (omega (arith, c.loop-test.true)) p.made c.if-r-eq0.true) c.requires.0.current c.most_rounds-most.ensures refl);
      lent = lent_then i.1 p.lent;
      lent_raising = tables_then i.2 p.lent_raising;
    }
