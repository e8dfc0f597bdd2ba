-- `lines::traits::punct_traits` meets its contract. Assumes nothing.
use Rattle.lines.proofs.shapes.Writes.{assign-only}
use Rattle.reference.specs.Control.{◌and◌, ◌or◌}
use Rattle.reference.specs.Listing.{is}
use Rattle.reference.specs.Shapes.{is_kw, has_brace, writes, is_operator}
use Rattle.laws.proofs.Scans.{or_last}
use Rattle.lines.specs.Traits.{only, delimits_before, delimits_after, is_sign, traits}
use Rattle.lines.proofs.traits.Rows.{either, number_or}
use Rattle.lines.proofs.traits.punct_traits.Goals as goal

pub returns : goal.returns
unfolding traits only either delimits_before delimits_after is_sign is_kw has_brace writes is_operator is ◌and◌ ◌or◌
returns c =
    rw (
      c.text_traits.ensures,
      c.bit_if.ensures,
      c.bit_if-2.ensures,
      c.bit_if-3.ensures,
      c.bit_if-4.ensures,
      c.bit_if-5.ensures,
      c.bit_if-6.ensures,
      c.has_brace.ensures,
      c.starts.ensures,
      c.starts-2.ensures,
      c.starts-3.ensures,
      c.is_writing.ensures,
      c.is_spaced.ensures,
    ) (simp (number_or, or_last, assign-only))
