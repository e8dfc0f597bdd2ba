-- `flow::reaching::mark_case` meets its contract. Assumes nothing.
use borrow.Author.Rules.{rules}
use mathlib.Core.Path.{◌∙◌}
use native.Mathlib.Omega.{arith}
use Rattle.lines.specs.Texts.{bare_listing}
use Rattle.flow.proofs.Tables.{lines_long}
use Rattle.flow.proofs.Walking.{case_set, case_left, case_past}
use Rattle.flow.proofs.reaching.mark_case.Goals as goal

pub returns-then-g-m : goal.returns-then-g-m
returns-then-g-m c = let g = c.args.g.now in
    case_past (bare_listing g.listing) c.args.m _ (omega (arith, lines_long g, c.requires.table.long, c.if-g-m.true))

pub returns-then-not-is_case : goal.returns-then-not-is_case
returns-then-not-is_case c = let g = c.args.g.now in
    let t = c.requires in
    let h = (t.table.each c.args.m (omega (arith, t.table.long, c.if-g-m.false))).case_is in
    case_left (bare_listing g.listing) c.args.m _ (omega (arith, lines_long g, t.table.long, c.if-g-m.false)) h (search rules)

pub returns : goal.returns
returns c = let g = c.args.g.now in
    let t = c.requires in
    let h = (t.table.each c.args.m (omega (arith, t.table.long, c.if-g-m.false))).case_is in
    c.mark.ensures ∙ case_set (bare_listing g.listing) c.args.m _ (omega (arith, lines_long g, t.table.long, c.if-g-m.false)) h c.if-not-is_case.false
