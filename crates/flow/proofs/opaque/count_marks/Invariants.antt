-- What the loop of `flow::opaque::count_marks` keeps true: the changes so far, and those that come, are all. Assumes nothing.
use Rattle.std.proofs.Common.{◌≡◌, ◌+◌, ◌*◌, ◌≤◌, drop}
use Rattle.reference.specs.Claim.{sum}
use Rattle.cautions.specs.Texts.{marks}
use Rattle.lines.specs.Texts.{tokens_of}
use Rattle.flow.proofs.opaque.count_marks.Given as goal

abbrev pub invariant-loop-w : goal.invariant-loop-w
invariant-loop-w l =
    (l.n + sum marks (tokens_of l.texts (drop l.w-index l.line)) ≡ sum marks (tokens_of l.texts l.line)) × (l.n ≤ 65535 * l.w-index)
