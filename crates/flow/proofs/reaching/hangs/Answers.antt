-- `flow::reaching::hangs` meets its contract. Assumes nothing.
use borrow.Author.Rules.{rules}
use native.Mathlib.Omega.{arith}
use Rattle.lines.specs.Texts.{bare_listing}
use Rattle.flow.proofs.Tables.{lines_long}
use Rattle.flow.proofs.Hanging.{hangs_here, hangs_further, hangs_end}
use Rattle.flow.proofs.reaching.hangs.Goals as goal

pub returns-then-not-is_label_line : goal.returns-then-not-is_label_line
returns-then-not-is_label_line c =
    let g = c.args.g.now in
    let l = c.loop-j in
    hangs_here (bare_listing g.listing) c.args.i l.j c.loop-j-test.true (omega (arith, lines_long g, c.requires.1)) l.invariant
    c.is_label_line.ensures (search rules) c.is_known.ensures

pub loop-j-preserved : goal.loop-j-preserved
loop-j-preserved c =
    let g = c.args.g.now in
    let l = c.loop-j in
    hangs_further (bare_listing g.listing) c.args.i l.j c.loop-j-test.true (omega (arith, lines_long g, c.requires.1)) l.invariant
    c.is_label_line.ensures (search rules)

pub returns : goal.returns
returns c = let l = c.loop-j in hangs_end (bare_listing c.args.g.now.listing) c.args.i l.j c.loop-j-test.false l.invariant
