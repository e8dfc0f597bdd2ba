-- What the loop of `join::patch::remove_word` keeps true: the words before word k are those that stay. Assumes nothing.
use Rattle.join.proofs.Removing.{removing}
use Rattle.std.proofs.Common.{◌≡◌}
use Rattle.join.proofs.patch.remove_word.Given as goal

abbrev pub invariant-loop-k : goal.invariant-loop-k
invariant-loop-k l = l.lines ≡ removing l.initial.lines l.gone l.k
