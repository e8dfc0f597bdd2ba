-- `flow::between::has_call` meets its contract. Assumes nothing.
use native.Mathlib.Omega.{arith}
use mathlib.Core.Path.{sym, ◌∙◌}
use Rattle.reference.specs.Listing.{blank}
use Rattle.flow.specs.Between.{calls}
use Rattle.lines.specs.Texts.{bare_in}
use lib.ListN.{length-map}
use Rattle.lines.specs.Texts.{bare_listing}
use Rattle.flow.proofs.Ranging.{range_begin, range_found, range_on, range_end}
use Rattle.flow.proofs.between.has_call.Goals as goal

pub loop-k-init : goal.loop-k-init
loop-k-init c = let ls = bare_listing c.args.listing.now in range_begin calls ls c.args.a c.args.c

pub returns-then-calls_at : goal.returns-then-calls_at
returns-then-calls_at c =
    let ls = bare_listing c.args.listing.now in
    let k = c.loop-k.k in
    range_found calls ls blank k c.args.c c.loop-k-test.true
    (omega (arith, length-map c.args.listing.now.lines.now (bare_in c.args.listing.now.texts c.args.listing.now.tokens.now), c.requires.1)) c.loop-k.invariant
    (sym c.calls_at.ensures ∙ c.if-calls_at.true)

pub loop-k-preserved : goal.loop-k-preserved
loop-k-preserved c =
    let ls = bare_listing c.args.listing.now in
    let k = c.loop-k.k in
    range_on calls ls blank k c.args.c c.loop-k-test.true
    (omega (arith, length-map c.args.listing.now.lines.now (bare_in c.args.listing.now.texts c.args.listing.now.tokens.now), c.requires.1)) c.loop-k.invariant
    (sym c.calls_at.ensures ∙ c.if-calls_at.false)

pub returns : goal.returns
returns c =
    let ls = bare_listing c.args.listing.now in
    range_end calls ls c.loop-k.k c.args.c c.loop-k-test.false c.loop-k.invariant
