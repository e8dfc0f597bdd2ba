-- What the loop of `flow::between::has_dark` keeps true: the answer is that of the lines from k on. Assumes nothing.
use Rattle.std.proofs.Common.{◌≡◌}
use Rattle.std.proofs.Math.Seq.{slice}
use Rattle.reference.specs.Lists.{any}
use Rattle.cautions.specs.Forms.{places, ways, is_dark}
use Rattle.lines.specs.Texts.{bare_listing}
use Rattle.flow.proofs.Ranging.{rest}
use Rattle.flow.proofs.between.has_dark.Given as goal

abbrev pub invariant-loop-k : goal.invariant-loop-k
invariant-loop-k l =
    let ls = bare_listing l.g.listing in
    rest (is_dark ls (ways ls)) (places ls) l.k l.c ≡ any (is_dark ls (ways ls)) (slice l.a l.c (places ls))
