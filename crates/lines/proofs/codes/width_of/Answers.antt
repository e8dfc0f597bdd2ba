-- `lines::codes::width_of` meets its contract. Assumes nothing.
use native.Mathlib.Omega.{arith}
use Rattle.lines.specs.Codes.{coded_width}
use Rattle.lines.proofs.codes.Coding.{width_shifted}
use Rattle.lines.proofs.codes.width_of.Goals as goal

pub returns : goal.returns
unfolding coded_width
returns c = width_shifted _ (omega arith)
