-- `numbers::wrapping::wrapping_add` meets its contract. Assumes nothing.
use Rattle.numbers.proofs.Signed.{sum_wraps}
use Rattle.numbers.proofs.wrapping.wrapping_add.Goals as goal

pub returns : goal.returns
returns c = sum_wraps c.args.a c.args.b c.ranges.a c.ranges.b
