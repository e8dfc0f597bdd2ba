-- The readings, by computation. Assumes nothing.
use mathlib.Core.Path.{refl}
use Rattle.books.specs.Notation.{spelled_out}
use Rattle.books.specs.Readings.{Readings}

pub readings : Readings
unfolding spelled_out
readings =
    record {
      cut_of_any_kind = refl;
      cast_is_not_cut = refl;
      lone_token = refl;
      comma_behind_bracket = refl;
      comma_alone = refl;
      fold_of_any_kind = refl;
      three_terms = refl;
      semicolon_in_register = refl;
      semicolon_in_slot = refl;
      keyword_reads_memory = refl;
      one_use_at_another_indent = refl;
      two_uses_at_another_indent = refl;
      past_return = refl;
      past_call = refl;
      addressed_of_any_kind = refl;
      addressed_later = refl;
      label_made = refl;
      call_made = refl;
      label_made_late = refl;
      while_without_do = refl;
      while_with_call = refl;
      sum_left = refl;
      dead_assignment_left = refl;
      negation_wraps = refl;
    }
