-- `token` of tallies::sizes meets its contract. Assumes nothing.
use Rattle.tallies.proofs.Sizing.{token-in_none, sizes_token}
use Rattle.tallies.proofs.sizes.SizesTally.token.Goals as goal

pub returns-then-self-eq0-clause-counts : goal.returns-then-self-eq0-clause-counts
returns-then-self-eq0-clause-counts c = token-in_none c.args.self c.args.kind c.args.text.now c.if-self-eq0.true

pub returns-clause-counts : goal.returns-clause-counts
returns-clause-counts c = sizes_token c.args.self c.args.kind c.args.text.now c.if-self-eq0.false
