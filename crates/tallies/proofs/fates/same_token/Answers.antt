-- `tallies::fates::same_token` meets its contract. Assumes nothing.
use Rattle.tallies.proofs.Fating.{equal_and, other_and}
use Rattle.tallies.proofs.fates.same_token.Goals as goal

pub returns-then-one-other : goal.returns-then-one-other
returns-then-one-other c = equal_and c.if-one-other.true c.same.ensures

pub returns-else-one-other : goal.returns-else-one-other
returns-else-one-other c = other_and c.args.one.kind c.args.other.kind _ c.if-one-other.false
