-- The tables that are lent: they are the same and as long after a call, and so after one call after the other. Assumes nothing.
use native.Mathlib.Omega.{arith}
use mathlib.Core.Path.{◌≡◌, refl, sym, ap, ◌∙◌}
use mathlib.Core.Bool.{true, false≢true}
use Rattle.std.specs.Prelude.{ltb, length}
use Rattle.raising.specs.declared.tables.Raising.{Raising}
use Rattle.raising.specs.Tables.{is_on, SameLent, Room}

pub same_tables : (r : Raising) → SameLent r r
same_tables r =
    record {
      sets_are = refl;
      forms_are = refl;
      parts_are = refl;
      seen_are = refl;
      expr_are = refl;
      sets_length = refl;
      forms_length = refl;
      parts_length = refl;
      seen_length = refl;
      expr_length = refl;
    }

pub tables_then : {a b c : Raising} → SameLent a b → SameLent b c → SameLent a c
tables_then p q =
    record {
      sets_are = q.sets_are ∙ p.sets_are;
      forms_are = q.forms_are ∙ p.forms_are;
      parts_are = q.parts_are ∙ p.parts_are;
      seen_are = q.seen_are ∙ p.seen_are;
      expr_are = q.expr_are ∙ p.expr_are;
      sets_length = q.sets_length ∙ p.sets_length;
      forms_length = q.forms_length ∙ p.forms_length;
      parts_length = q.parts_length ∙ p.parts_length;
      seen_length = q.seen_length ∙ p.seen_length;
      expr_length = q.expr_length ∙ p.expr_length;
    }

module _ {a b : Raising} (s : SameLent a b) where
  -- sets are kept, or none are
  pub on_as_before : is_on b ≡ is_on a
  on_as_before = ap (ltb 0) s.sets_length

  -- and there is as much room
  pub room_again : (is_on a ≡ true → Room a) → is_on b ≡ true → Room b
  room_again had on =
      let r = had (rw on_as_before at on) in
      record {
        for_sets = omega (arith, r.for_sets, s.sets_length);
        for_forms = omega (arith, r.for_forms, s.forms_length);
        for_parts = omega (arith, r.for_parts, s.parts_length);
        for_seen = omega (arith, r.for_seen, s.seen_length);
        for_expr = omega (arith, r.for_expr, s.expr_length);
      }

-- where the table of sets is empty, none are kept
pub none_kept : {r : Raising} → length r.sets.now ≡ 0 → is_on r ≡ true → Room r
none_kept e on = absurd (false≢true (sym (ap (ltb 0) e) ∙ on))
