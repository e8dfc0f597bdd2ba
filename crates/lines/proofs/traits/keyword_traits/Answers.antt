-- `lines::traits::keyword_traits` meets its contract. Assumes nothing.
use Rattle.reference.specs.Control.{◌and◌, ◌or◌}
use Rattle.reference.specs.Listing.{is}
use Rattle.reference.specs.Shapes.{is_kw, has_brace, writes, is_operator}
use Rattle.laws.proofs.Scans.{or_last}
use Rattle.lines.specs.Traits.{only, delimits_before, delimits_after, is_sign, traits}
use Rattle.lines.proofs.traits.Rows.{either, number_or}
use Rattle.lines.proofs.traits.keyword_traits.Goals as goal

pub returns : goal.returns
unfolding traits only either delimits_before delimits_after is_sign is_kw has_brace writes is_operator is ◌and◌ ◌or◌
returns c =
    rw (
      c.text_traits.ensures,
      c.bit_if.ensures,
      c.bit_if-2.ensures,
      c.bit_if-3.ensures,
      c.bit_if-4.ensures,
      c.bit_if-5.ensures,
      c.bit_if-6.ensures,
      c.same.ensures,
      c.same-2.ensures,
      c.same-3.ensures,
      c.same-4.ensures,
      c.starts.ensures,
      c.starts-2.ensures,
    )
    (simp (number_or, or_last))
