-- What the loop of `join::spare::is_enough` keeps true.
use mathlib.Core.Path.{◌≡◌}
use lib.Dec.{ltb}
use lib.ListN.{drop}
use Rattle.join.specs.Patching.{needs}
use Rattle.join.proofs.spare.is_enough.Given as goal

abbrev pub invariant-loop-l : goal.invariant-loop-l
invariant-loop-l l = ltb (needs l.tokens l.source (drop l.l-index l.lines)) l.left ≡ ltb (needs l.tokens l.source l.lines) l.n
