-- What the loop of `test_leaves::compared` keeps true: what is counted so far, and what the rest has, make the whole.
use Prim.Native.Nat.{◌≤◌, ◌+◌}
use mathlib.Core.Path.{◌≡◌}
use lib.ListN.{length}
use Rattle.test_leaves.specs.Fields.{lines}
use Rattle.test_leaves.specs.Answers.{differing}
use Rattle.test_leaves.proofs.compared.Given as goal

abbrev pub invariant-loop-line : goal.invariant-loop-line
invariant-loop-line l =
    let left = l.line-iterator.rest.now in
    (l.counts.calls + length left ≤ length l.input) × (l.counts.differ ≤ l.counts.calls) × (length l.out ≡ length l.initial.out)
    × (l.counts.calls + length (lines left) ≡ length (lines l.input)) × (l.counts.differ + differing left ≡ differing l.input)
