-- `lines::traits::text_traits` meets its contract. Assumes nothing.
use Rattle.reference.specs.Control.{◌and◌, ◌or◌}
use Rattle.reference.specs.Listing.{is}
use Rattle.reference.specs.Shapes.{is_kw, has_brace, writes, is_operator}
use Rattle.laws.proofs.Scans.{or_last}
use Rattle.lines.specs.Traits.{only, delimits_before, delimits_after, is_sign, traits}
use Rattle.lines.proofs.traits.Rows.{either, number_or, number_longer}
use Rattle.lines.proofs.traits.text_traits.Goals as goal

pub returns : goal.returns
unfolding traits only either delimits_before delimits_after is_sign is_kw has_brace writes is_operator is ◌and◌ ◌or◌
returns c =
    rw (
      c.bit_if.ensures,
      c.bit_if-2.ensures,
      c.bit_if-3.ensures,
      c.bit_if-4.ensures,
      c.bit_if-5.ensures,
      c.bit_if-6.ensures,
      c.bit_if-7.ensures,
      c.bit_if-8.ensures,
      c.bit_if-9.ensures,
      c.same.ensures,
      c.same-2.ensures,
      c.starts.ensures,
      c.ends.ensures,
      c.ends-2.ensures,
      c.delimits_before.ensures,
      c.delimits_after.ensures,
      c.is_sign.ensures,
    ) (simp (number_or, or_last) (number_longer _ 12))
