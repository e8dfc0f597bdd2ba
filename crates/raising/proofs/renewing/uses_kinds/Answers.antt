-- `raising::renewing::uses_kinds` meets its contract. Assumes nothing.
use native.Mathlib.Omega.{arith}
use Rattle.lines.specs.Texts.{bare_listing}
use Rattle.raising.proofs.Told.{long}
use Rattle.raising.proofs.Renewed.{kinds_more, kinds_end}
use Rattle.raising.proofs.renewing.uses_kinds.Goals as goal

pub loop-q-preserved : goal.loop-q-preserved
loop-q-preserved c =
    let a = c.args in
    let l = c.loop-q in
    let n = long a.listing.now in
    let q = c.requires.1 in
    kinds_more a.parts.now (bare_listing a.listing.now) l.kinds l.q (omega (arith, n, c.loop-q-test.true, q.inside)) (omega (arith, c.loop-q-test.true, q.inside, q.room))
    c.kinds_at-kinds.ensures l.invariant

pub returns : goal.returns
returns c =
    let a = c.args in
    let l = c.loop-q in
    let n = long a.listing.now in
    kinds_end a.parts.now (bare_listing a.listing.now) l.kinds l.q (λ k h b. c.requires.1.behind k (omega (arith, h, c.loop-q-test.false)) (omega (arith, n, b))) l.invariant
