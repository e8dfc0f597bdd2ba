-- What the loop of `flow::handed::is_passed_on` keeps true: the answer is that of the lines from k on. Assumes nothing.
use Rattle.std.proofs.Common.{◌≡◌, drop}
use Rattle.cautions.specs.Forms.{reached_from}
use Rattle.reference.specs.Lists.{any}
use Rattle.lines.specs.Texts.{bare_listing}
use Rattle.ground.specs.Rules.{rules_of}
use Rattle.flow.specs.Handed.{unspelt_at}
use Rattle.flow.proofs.handed.is_passed_on.Given as goal

abbrev pub invariant-loop-k : goal.invariant-loop-k
invariant-loop-k l =
    let test = unspelt_at (rules_of l.rules) (bare_listing l.g.listing) in
    any test (reached_from l.k (drop l.k l.seen)) ≡ any test (reached_from 0 l.seen)
