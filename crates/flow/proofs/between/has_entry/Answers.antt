-- `flow::between::has_entry` meets its contract. Assumes nothing.
use native.Mathlib.Omega.{arith}
use mathlib.Core.Path.{sym, ◌∙◌}
use Rattle.reference.specs.Listing.{blank}
use Rattle.flow.specs.Between.{enters}
use Rattle.flow.proofs.Tables.{lines_long}
use Rattle.lines.specs.Texts.{bare_listing}
use Rattle.flow.proofs.Ranging.{range_begin, range_found, range_on, range_end}
use Rattle.flow.proofs.between.has_entry.Goals as goal

pub loop-k-init : goal.loop-k-init
loop-k-init c = let ls = bare_listing c.args.g.now.listing in range_begin enters ls c.args.a c.args.c

pub returns-then-g-k : goal.returns-then-g-k
returns-then-g-k c =
    let ls = bare_listing c.args.g.now.listing in
    let k = c.loop-k.k in
    range_found enters ls blank k c.args.c c.loop-k-test.true (omega (arith, lines_long c.args.g.now, c.requires.1)) c.loop-k.invariant
    (sym (c.requires.0.table.each k (omega (arith, c.loop-k-test.true, c.requires.1))).entered_is ∙ c.if-g-k.true)

pub loop-k-preserved : goal.loop-k-preserved
loop-k-preserved c =
    let ls = bare_listing c.args.g.now.listing in
    let k = c.loop-k.k in
    range_on enters ls blank k c.args.c c.loop-k-test.true (omega (arith, lines_long c.args.g.now, c.requires.1)) c.loop-k.invariant
    (sym (c.requires.0.table.each k (omega (arith, c.loop-k-test.true, c.requires.1))).entered_is ∙ c.if-g-k.false)

pub returns : goal.returns
returns c =
    let ls = bare_listing c.args.g.now.listing in
    range_end enters ls c.loop-k.k c.args.c c.loop-k-test.false c.loop-k.invariant
