-- `tallies::fates::same_line` meets its contract. Assumes nothing.
use Rattle.laws.proofs.Scans.{and_here, and_second}
use Rattle.tallies.specs.Fates.{same_line}
use Rattle.tallies.proofs.Fating.{equal_and, other_and}
use Rattle.tallies.proofs.fates.same_line.Goals as goal

pub returns-then-not-same_address : goal.returns-then-not-same_address
unfolding same_line
returns-then-not-same_address c = and_here _ c.same_address.ensures c.if-not-same_address.true

pub returns-then-one-other : goal.returns-then-one-other
unfolding same_line
returns-then-one-other c = and_second c.same_address.ensures c.if-not-same_address.false (equal_and c.if-one-other.true c.same_tokens.ensures)

pub returns-else-one-other : goal.returns-else-one-other
unfolding same_line
returns-else-one-other c =
    and_second c.same_address.ensures c.if-not-same_address.false (other_and c.args.one.indent c.args.other.indent _ c.if-one-other.false)
