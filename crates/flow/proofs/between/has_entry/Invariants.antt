-- What the loop of `flow::between::has_entry` keeps true: the answer is that of the lines from k on. Assumes nothing.
use Rattle.std.proofs.Common.{◌≡◌}
use Rattle.std.proofs.Math.Seq.{slice}
use Rattle.reference.specs.Lists.{any}
use Rattle.lines.specs.Texts.{bare_listing}
use Rattle.flow.specs.Between.{enters}
use Rattle.flow.proofs.Ranging.{rest}
use Rattle.flow.proofs.between.has_entry.Given as goal

abbrev pub invariant-loop-k : goal.invariant-loop-k
invariant-loop-k l = let ls = bare_listing l.g.listing in rest enters ls l.k l.c ≡ any enters (slice l.a l.c ls)
