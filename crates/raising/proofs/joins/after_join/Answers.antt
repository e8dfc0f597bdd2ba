-- `raising::joins::after_join` meets its contract. Assumes nothing.
use Prim.Native.Nat.{ℕ}
use native.Mathlib.Omega.{arith}
use mathlib.Core.Path.{◌≡◌, sym, ap, ◌∙◌}
use mathlib.Core.Bool.{true}
use lib.Dec.{ltb}
use Rattle.raising.specs.Tables.{is_on}
use Rattle.raising.proofs.Before.{on_if}
use Rattle.raising.proofs.Renewed.{noted_to}
use Rattle.raising.proofs.Passing.{sets_left, forms_left, untold_left}
use Rattle.raising.proofs.joins.after_join.Goals as goal

pub hand_on-requires : goal.hand_on-requires
hand_on-requires c =
    let q = c.requires in
    let room = q.3 (on_if c.args.r.now c.if-r-eq0.false) in
    let noted = c.last_noted-last.ensures in (
      q.0,
      noted_to c.args.listing.now c.args.i _ c.args.r.now.parts.now (omega (arith, room.for_parts, q.1)) noted.within noted.behind,
      omega (arith, room.for_sets, q.1),
      omega (arith, room.for_forms, q.1),
    )

pub returns-clause-raised : goal.returns-clause-raised
returns-clause-raised c rules lines p before h left inside =
    let l = c.args.listing.now in
    let r = c.args.r.now in
    let q = c.requires in
    let on : is_on r ≡ true = on_if r c.if-r-eq0.false in
    let was : is_on before ≡ true = sym (ap (λ (n : ℕ). ltb 0 n) h.long) ∙ on in
    let room = q.3 on in
    let noted = c.last_noted-last.ensures in
    let b = noted_to l c.args.i _ r.parts.now (omega (arith, room.for_parts, q.1)) noted.within noted.behind in
    record {
      kept = record {
        room = λ x. record {
          for_sets = omega (arith, room.for_sets, c.hand_on.auto.sets);
          for_forms = omega (arith, room.for_forms, c.hand_on.auto.forms);
          for_parts = omega (arith, room.for_parts, c.forget.auto.parts);
          for_seen = room.for_seen;
          for_expr = room.for_expr;
        };
        untold = λ x. untold_left h inside l left was room q.1 b.above c.forget.ensures b.behind;
        formed = λ x. forms_left h inside l left was room q.1 c.hand_on.ensures (omega (arith, room.for_sets, q.1, c.hand_on.auto.sets));
      };
      sets = λ x. sets_left h inside l left was room q.1 c.hand_on.ensures (omega (arith, room.for_sets, q.1, c.hand_on.auto.sets));
    }
