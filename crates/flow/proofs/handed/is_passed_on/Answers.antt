-- `flow::handed::is_passed_on` meets its contract. Assumes nothing.
use native.Mathlib.Omega.{arith}
use mathlib.Core.Path.{◌≡◌}
use Prim.Native.Nat.{suc, ◌<◌}
use lib.ListN.{length}
use Rattle.ground.specs.Rules.{rules_of}
use Rattle.lines.specs.Texts.{bare_listing}
use Rattle.flow.proofs.Tables.{lines_long}
use Rattle.flow.proofs.Handing.{passed_here, passed_not, passed_over, passed_end}
use Rattle.flow.proofs.handed.is_passed_on.Goals as goal
use Rattle.flow.proofs.handed.is_passed_on.Goals.{else-seen-k-via-then-seen-k+else-unspelt_at, else-seen-k-via-else-seen-k}

pub returns-then-unspelt_at : goal.returns-then-unspelt_at
returns-then-unspelt_at c =
    let g = c.args.g.now in
    passed_here (rules_of c.args.rules) (bare_listing g.listing) c.args.seen.now (omega (arith, lines_long g, c.requires.1)) c.loop-k.k
    (omega (arith, lines_long g, c.loop-k-test.true)) c.loop-k.invariant c.if-seen-k.true c.unspelt_at.ensures c.if-unspelt_at.true

pub loop-k-preserved : goal.loop-k-preserved
loop-k-preserved c =
    let g = c.args.g.now in
    let rules = rules_of c.args.rules in
    let ls = bare_listing g.listing in
    let k = c.loop-k.k in
    let long : length c.args.seen.now ≡ suc (length ls) = omega (arith, lines_long g, c.requires.1) in
    let h : k < length ls = omega (arith, lines_long g, c.loop-k-test.true) in
    elim c.else-seen-k.branch [
      | else-seen-k-via-then-seen-k+else-unspelt_at w ↦ passed_not rules ls c.args.seen.now long k h c.loop-k.invariant w.if-seen-k.true w.unspelt_at.ensures w.if-unspelt_at.false
      | else-seen-k-via-else-seen-k w ↦ passed_over rules ls c.args.seen.now long k h c.loop-k.invariant w.if-seen-k.false
    ]

pub returns : goal.returns
returns c =
    let g = c.args.g.now in
    passed_end (rules_of c.args.rules) (bare_listing g.listing) c.args.seen.now (omega (arith, lines_long g, c.requires.1)) c.loop-k.k
    (omega (arith, lines_long g, c.loop-k-test.false)) (omega (arith, lines_long g, c.loop-k.auto.k-end)) c.loop-k.invariant
