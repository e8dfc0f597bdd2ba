-- What the loop of `flow::blocks::closer` keeps true: the answer is that of the lines that come. Assumes nothing.
use Rattle.std.proofs.Common.{◌≡◌, ◌+◌, ◌*◌, ◌≤◌, drop}
use Rattle.flow.specs.Blocks.{closer_by}
use Rattle.flow.proofs.blocks.closer.Given as goal

abbrev pub invariant-loop-m : goal.invariant-loop-m
invariant-loop-m l = (closer_by l.d l.m (drop l.m l.forms) ≡ closer_by 0 (l.k + 1) (drop (l.k + 1) l.forms)) × (l.d ≤ 8589934593 * l.m)
