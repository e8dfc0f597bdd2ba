-- `flow::between::has_dark` meets its contract. Assumes nothing.
use native.Mathlib.Omega.{arith}
use mathlib.Core.Path.{sym, ap, ◌∙◌}
use Rattle.cautions.specs.Forms.{places, ways, is_dark}
use Rattle.flow.proofs.Tables.{lines_long}
use Rattle.flow.proofs.Walking.{places_long, place_at}
use Rattle.lines.specs.Texts.{bare_listing}
use Rattle.flow.proofs.Ranging.{range_begin, range_found, range_on, range_end}
use Rattle.flow.proofs.between.has_dark.Goals as goal

pub loop-k-init : goal.loop-k-init
loop-k-init c = let ls = bare_listing c.args.g.now.listing in range_begin (is_dark ls (ways ls)) (places ls) c.args.a c.args.c

pub returns-then-is_dark : goal.returns-then-is_dark
returns-then-is_dark c =
    let ls = bare_listing c.args.g.now.listing in
    let k = c.loop-k.k in
    range_found (is_dark ls (ways ls)) (places ls) 0 k c.args.c c.loop-k-test.true (omega (arith, lines_long c.args.g.now, places_long ls, c.requires.1)) c.loop-k.invariant
    (ap (is_dark ls (ways ls)) (place_at ls k (omega (arith, lines_long c.args.g.now, c.loop-k-test.true, c.requires.1))) ∙ sym c.is_dark.ensures ∙ c.if-is_dark.true)

pub loop-k-preserved : goal.loop-k-preserved
loop-k-preserved c =
    let ls = bare_listing c.args.g.now.listing in
    let k = c.loop-k.k in
    range_on (is_dark ls (ways ls)) (places ls) 0 k c.args.c c.loop-k-test.true (omega (arith, lines_long c.args.g.now, places_long ls, c.requires.1)) c.loop-k.invariant
    (ap (is_dark ls (ways ls)) (place_at ls k (omega (arith, lines_long c.args.g.now, c.loop-k-test.true, c.requires.1))) ∙ sym c.is_dark.ensures ∙ c.if-is_dark.false)

pub returns : goal.returns
returns c =
    let ls = bare_listing c.args.g.now.listing in
    range_end (is_dark ls (ways ls)) (places ls) c.loop-k.k c.args.c c.loop-k-test.false c.loop-k.invariant
