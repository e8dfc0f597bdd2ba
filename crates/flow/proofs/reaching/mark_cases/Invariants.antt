-- What the loop of `flow::reaching::mark_cases` keeps true: the cases from line m on are to come. Assumes nothing.
use Rattle.std.proofs.Common.{◌≡◌, ◌-◌, take, drop}
use Rattle.cautions.specs.Forms.{places, reach}
use Rattle.lines.specs.Texts.{bare_listing}
use Rattle.std.proofs.Math.Seq.{slice}
use Rattle.flow.specs.Reaching.{cases_in}
use Rattle.flow.proofs.reaching.mark_cases.Given as goal

abbrev pub invariant-loop-m : goal.invariant-loop-m
invariant-loop-m l =
    let lines = bare_listing l.g.listing in
    reach (cases_in lines (take (l.c - l.m) (drop l.m (places lines)))) l.seen ≡ reach (cases_in lines (slice l.a l.c (places lines))) l.initial.seen
