-- `numbers::wrapping::wrapping_neg` meets its contract. Assumes nothing.
use Rattle.std.proofs.Common.{◌∙◌}
use Rattle.numbers.proofs.Signed.{read_back, negation_wraps}
use Rattle.numbers.proofs.wrapping.wrapping_neg.Goals as goal

pub returns : goal.returns
returns c = read_back _ c.wrapping_neg.type_inv ∙ c.wrapping_neg.ensures ∙ negation_wraps c.args.v c.ranges.v
