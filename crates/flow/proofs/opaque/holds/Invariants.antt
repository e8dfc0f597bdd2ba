-- What the loop of `flow::opaque::holds` keeps true: the answer is that of the text from k on. Assumes nothing.
use Rattle.std.proofs.Common.{◌≡◌, drop}
use Rattle.cautions.specs.Texts.{holds}
use Rattle.flow.proofs.opaque.holds.Given as goal

abbrev pub invariant-loop-k : goal.invariant-loop-k
invariant-loop-k l = holds l.p (drop l.k l.s) ≡ holds l.p l.s
