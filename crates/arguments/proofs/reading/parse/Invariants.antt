-- What the loop of `arguments::reading::parse` keeps true, and what falls at each turn.
use Rattle.std.proofs.Common.{◌≡◌, ◌+◌, ◌≤◌, length}
use Rattle.words.specs.Splitting.{split}
use Rattle.arguments.specs.Requests.{none_yet, steps_from}
use Rattle.arguments.proofs.reading.parse.Given as goal

abbrev pub invariant-loop-word : goal.invariant-loop-word
invariant-loop-word l =
    record {
      room : l.k + length l.left ≤ length l.words;
      same : steps_from none_yet 0 (split l.words) ≡ steps_from l.s l.k (split l.left);
    }

abbrev pub decreases-loop-word : goal.decreases-loop-word
decreases-loop-word l = length l.left
