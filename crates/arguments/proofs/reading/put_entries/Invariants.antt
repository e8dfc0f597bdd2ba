-- What the loop of `arguments::reading::put_entries` keeps true, and what falls at each turn.
use Rattle.std.proofs.Common.{◌+◌, ◌*◌, ◌<◌, ◌≤◌, length}
use Rattle.text.specs.Cursor.{Fits}
use Rattle.arguments.proofs.Gathering.{Begun}
use Rattle.arguments.proofs.reading.put_entries.Given as goal

abbrev pub invariant-loop-word : goal.invariant-loop-word
invariant-loop-word l =
    record {
      counted : l.k + length l.left ≤ length l.words;
      room : Fits l.list 0;
      before : 0 < length l.left → Fits l.list (9 * length l.left + 9);
      begun : Begun l.words l.initial.list l.s l.k l.left l.list;
    }

abbrev pub decreases-loop-word : goal.decreases-loop-word
decreases-loop-word l = length l.left
