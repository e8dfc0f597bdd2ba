-- What the loop of `arguments::base_names::same_later` keeps true, and what falls at each turn.
use Rattle.std.proofs.Common.{◌≡◌, ◌+◌, ◌≤◌, length}
use Rattle.words.specs.Splitting.{split}
use Rattle.arguments.specs.Names.{same_later}
use Rattle.arguments.proofs.base_names.same_later.Given as goal

abbrev pub invariant-loop-word : goal.invariant-loop-word
invariant-loop-word l =
    record {
      room : l.n + length l.left ≤ l.k + length l.words;
      same : same_later l.path l.initial.t l.k (split l.words) ≡ same_later l.path l.t l.n (split l.left);
    }

abbrev pub decreases-loop-word : goal.decreases-loop-word
decreases-loop-word l = length l.left
