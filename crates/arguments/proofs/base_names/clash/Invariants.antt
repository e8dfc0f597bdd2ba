-- What the loop of `arguments::base_names::clash` keeps true, and what falls at each turn.
use Rattle.std.proofs.Common.{◌≡◌, ◌+◌, ◌≤◌, length}
use Rattle.words.specs.Splitting.{split}
use Rattle.arguments.specs.Names.{clash_from, clash_of}
use Rattle.arguments.proofs.base_names.clash.Given as goal

abbrev pub invariant-loop-word : goal.invariant-loop-word
invariant-loop-word l =
    record {
      room : l.k + length l.left ≤ length l.words;
      same : clash_of (split l.words) ≡ clash_from l.s l.k (split l.left);
    }

abbrev pub decreases-loop-word : goal.decreases-loop-word
decreases-loop-word l = length l.left
