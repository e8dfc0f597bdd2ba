-- What the loop of `numbers::constant::row` keeps true, and what falls at each turn.
use Rattle.std.proofs.Common.{◌≡◌, false, length}
use Rattle.numbers.specs.Reading.{at_most}
use Rattle.numbers.specs.Constants.{row_after, row}
use Rattle.numbers.proofs.constant.row.Given as goal

abbrev pub invariant-loop-rest : goal.invariant-loop-rest
invariant-loop-rest l = at_most l.most (row l.radix l.s) ≡ at_most l.most (row_after l.radix false l.v l.rest)

abbrev pub decreases-loop-rest : goal.decreases-loop-rest
decreases-loop-rest l = length l.rest
