-- What the loop of `files::reading::read_all` keeps true, and what falls at each turn.
use Rattle.std.proofs.Common.{◌≤◌, ◌-◌, length}
use Rattle.files.proofs.reading.read_all.Given as goal

abbrev pub invariant-loop-at : goal.invariant-loop-at
invariant-loop-at g l = l.at ≤ length l.buffer

abbrev pub decreases-loop-at : goal.decreases-loop-at
decreases-loop-at g l = length l.buffer - l.at
