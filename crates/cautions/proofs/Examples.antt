-- The examples hold, by computation. Assumes nothing.
use mathlib.Core.Path.{refl}
use Rattle.books.specs.Notation.{spelled_out}
use Rattle.cautions.specs.Examples.{Others, Harmless}
use Rattle.cautions.proofs.Opened.{opened_cautions}

pub others : Others
unfolding opened_cautions spelled_out
others =
    record {
      octal = (refl, refl);
      sum_of_unsigned_int = (refl, refl);
      sum_of_signed = (refl, refl);
      sum_of_unsigned = (refl, refl);
      sign_of_a_byte = (refl, refl);
      result_through_32_bits = (refl, refl);
      entered_from_the_switch = (refl, refl);
      through_another_line = (refl, refl);
    }

pub harmless : Harmless
unfolding opened_cautions spelled_out
harmless =
    record {
      constant = (refl, refl);
      byte_use = (refl, refl);
      call = (refl, refl);
      brackets = (refl, refl);
      result_kept = (refl, refl);
      heater = (refl, refl);
      sensor = (refl, refl);
      valve = (refl, refl);
      filling = (refl, refl);
      timer = (refl, refl);
      jump_past = (refl, refl);
      overwritten_on_both_ways = (refl, refl);
    }
