-- What the loop of `flow::opaque::has_star` keeps true: the answer is that of the text from k on. Assumes nothing.
use Rattle.std.proofs.Common.{◌≡◌, drop}
use Rattle.cautions.specs.Texts.{star_after}
use Rattle.flow.proofs.opaque.has_star.Given as goal

abbrev pub invariant-loop-k : goal.invariant-loop-k
invariant-loop-k l = star_after l.p (drop l.k l.s) ≡ star_after 0 l.s
