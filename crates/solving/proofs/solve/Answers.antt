-- `solving::solve` meets its contract. Assumes nothing.
use Rattle.std.proofs.Common.{◌≡◌, ◌+◌, ◌-◌, arith, rules}
use Rattle.solving.proofs.Solving.{not_halved, halved_again, smallest-whole, none_whole, smallest_end}
use Rattle.solving.proofs.solve.Goals as goal

pub loop-i-init : goal.loop-i-init
loop-i-init c = not_halved 64 _ _

pub solve_odd-requires : goal.solve_odd-requires
solve_odd-requires c = (c.if-part-eq1.true, omega (arith, c.loop-i.invariant.few))

pub returns-then-part-eq1 : goal.returns-then-part-eq1
returns-then-part-eq1 c =
    (search rules, smallest-whole 64 _ _ _ _ _ c.loop-i.invariant c.ranges.c.fits _ c.solve_odd.ensures)

pub returns-then-rest-eq1 : goal.returns-then-rest-eq1
returns-then-rest-eq1 c =
    λ y lt e.
    none_whole 64 _ _ _ _ _ c.loop-i.invariant c.ranges.c.fits (omega arith)
    (omega (arith, c.if-part-eq1.false)) c.if-rest-eq1.true y e

pub loop-i-preserved : goal.loop-i-preserved
loop-i-preserved c =
    let next : 64 - (c.loop-i.i + 1) ≡ 64 - c.loop-i.i - 1 = omega arith in
    rw next
    (halved_again 64 _ _ _ _ _ c.loop-i.invariant (omega arith)
    (omega (arith, c.if-part-eq1.false)) (omega (arith, c.if-rest-eq1.false)))

pub returns : goal.returns
returns c =
    let l = c.loop-i in
    let end : 64 - l.i ≡ 0 = omega arith in
    (omega arith, smallest_end 64 _ _ l.part l.rest (rw end at l.invariant) c.ranges.c.fits)
