-- What the loop of `flow::reaching::hangs` keeps true: the answer is that of the lines that come, upwards. Assumes nothing.
use Rattle.std.proofs.Common.{◌≡◌, ◌-◌}
use Rattle.cautions.specs.Forms.{ways, hangs}
use Rattle.lines.specs.Texts.{bare_listing}
use Rattle.flow.proofs.reaching.hangs.Given as goal

abbrev pub invariant-loop-j : goal.invariant-loop-j
invariant-loop-j l =
    let ls = bare_listing l.g.listing in
    hangs ls (ways ls) (l.i - l.j) ≡ hangs ls (ways ls) l.i
