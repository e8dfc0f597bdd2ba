-- What the loop of `raising::renewing::move_up` keeps true: the items before item k have moved. Assumes nothing.
use Rattle.std.proofs.Common.{◌≡◌, ◌+◌}
use Rattle.std.specs.List.{copy_within}
use Rattle.raising.proofs.renewing.move_up.Given as goal

abbrev pub invariant-loop-k : goal.invariant-loop-k
invariant-loop-k g l = l.items ≡ copy_within l.initial.items (l.i + 1) l.k l.i
