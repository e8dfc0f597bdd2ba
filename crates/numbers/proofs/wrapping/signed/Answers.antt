-- `numbers::wrapping::signed` meets its contract. Assumes nothing.
use Rattle.std.proofs.Common.{◌∙◌}
use Rattle.numbers.proofs.Signed.{read_back, signed-std}
use Rattle.numbers.proofs.wrapping.signed.Goals as goal

pub returns : goal.returns
returns c = read_back _ c.cast_signed.type_inv ∙ c.cast_signed.ensures ∙ signed-std c.args.b c.ranges.b.fits
