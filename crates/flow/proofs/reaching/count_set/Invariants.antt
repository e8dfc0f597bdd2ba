-- What the loop of `flow::reaching::count_set` keeps true: those so far, and those that come, are all. Assumes nothing.
use Rattle.std.proofs.Common.{◌≡◌, ◌+◌, ◌≤◌, drop}
use Rattle.reference.specs.Lists.{count}
use Rattle.flow.specs.Reaching.{is_one}
use Rattle.flow.proofs.reaching.count_set.Given as goal

abbrev pub invariant-loop-b : goal.invariant-loop-b
invariant-loop-b l = (l.n + count is_one (drop l.b-index l.seen) ≡ count is_one l.seen) × (l.n ≤ l.b-index)
