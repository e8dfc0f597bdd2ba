-- `lines::traits::word_traits` meets its contract. Assumes nothing.
use Rattle.reference.specs.Control.{◌or◌}
use Rattle.laws.proofs.Scans.{or_last}
use Rattle.lines.specs.Traits.{only}
use Rattle.lines.proofs.traits.Rows.{either, number_or}
use Rattle.lines.proofs.traits.Tests.{word_row}
use Rattle.lines.proofs.traits.word_traits.Goals as goal

pub returns : goal.returns
unfolding only either ◌or◌
returns c = rw (c.bit_if.ensures, c.bit_if-2.ensures, c.starts.ensures) (simp (number_or, or_last) (word_row c.args.s.now c.requires))
