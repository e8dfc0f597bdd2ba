-- `flow::reaching::mark_cases` meets its contract. Assumes nothing.
use Rattle.lines.specs.Texts.{bare_listing}
use Rattle.flow.proofs.Walking.{cases_begin, cases_more, cases_end}
use Rattle.flow.proofs.reaching.mark_cases.Goals as goal

pub loop-m-init : goal.loop-m-init
loop-m-init c = cases_begin (bare_listing c.args.g.now.listing) c.args.a c.args.c c.args.seen.now

pub loop-m-preserved : goal.loop-m-preserved
loop-m-preserved c = let l = c.loop-m in cases_more (bare_listing c.args.g.now.listing) l.m c.args.c l.seen c.loop-m-test.true c.mark_case.ensures l.invariant

pub returns : goal.returns
returns c = let l = c.loop-m in cases_end (bare_listing c.args.g.now.listing) l.m c.args.c l.seen c.loop-m-test.false l.invariant
