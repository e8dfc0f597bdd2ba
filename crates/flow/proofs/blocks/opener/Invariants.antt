-- What the loop of `flow::blocks::opener` keeps true: the answer is that of the lines that come, upwards. Assumes nothing.
use Rattle.std.proofs.Common.{◌≡◌, ◌-◌, ◌*◌, ◌≤◌, take, reverse}
use Rattle.flow.specs.Blocks.{opener_by}
use Rattle.flow.proofs.blocks.opener.Given as goal

abbrev pub invariant-loop-j : goal.invariant-loop-j
invariant-loop-j l = (opener_by l.d (reverse (take (l.k - l.j) l.forms)) ≡ opener_by 0 (reverse (take l.k l.forms))) × (l.d ≤ 8589934593 * l.j)
