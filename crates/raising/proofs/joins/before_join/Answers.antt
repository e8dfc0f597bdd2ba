-- `raising::joins::before_join` meets its contract. Assumes nothing.
use native.Mathlib.Omega.{arith}
use mathlib.Core.Path.{◌≡◌}
use mathlib.Core.Bool.{true}
use Rattle.reference.proofs.Cases.{true-false}
use Rattle.raising.specs.Tables.{is_on}
use Rattle.raising.proofs.Before.{on_if}
use Rattle.raising.proofs.joins.before_join.Goals as goal

pub begin_join-requires : goal.begin_join-requires
begin_join-requires c =
    let r = c.args.r.now in
    let on : is_on r ≡ true = on_if r c.if-r-eq0.false in
    let room = c.requires.1.room on in
    (c.requires.0, c.requires.1.formed on, room.for_sets, room.for_forms, room.for_parts, room.for_seen, room.for_expr, c.requires.1.untold on)

pub returns-clause-halfway : goal.returns-clause-halfway
returns-clause-halfway c =
    let r = c.args.r.now in
    let q = c.requires.0 in
    let on : is_on r ≡ true = on_if r c.if-r-eq0.false in
    let room = c.requires.1.room on in
    let b = c.begin_join in
    record {
      planned = q.planned;
      kept = record {
        room = λ x. record {
          for_sets = omega (arith, room.for_sets, b.auto.sets);
          for_forms = omega (arith, room.for_forms, b.auto.forms);
          for_parts = omega (arith, room.for_parts, b.auto.parts);
          for_seen = omega (arith, room.for_seen, b.auto.seen);
          for_expr = omega (arith, room.for_expr, b.auto.expr);
        };
        formed = λ x. rw b.ensures.forms (c.requires.1.formed on);
      };
      long = b.auto.sets;
      begun = λ x. b.ensures.begun q.planned.def q.planned.known;
      none = λ x. absurd (true-false on x);
    }
