-- `numbers::wrapping::wrapping_sub` meets its contract. Assumes nothing.
use Rattle.numbers.proofs.Signed.{difference-wraps}
use Rattle.numbers.proofs.wrapping.wrapping_sub.Goals as goal

pub returns : goal.returns
returns c = difference-wraps c.args.a c.args.b c.ranges.a c.ranges.b
