-- `raising::noting::last_noted` meets its contract. Assumes nothing.
use native.Mathlib.Omega.{arith}
use mathlib.Core.Path.{sym, ◌∙◌}
use Rattle.raising.proofs.Told.{last_begun, last_kept, last_here, last_end}
use Rattle.raising.proofs.noting.last_noted.Goals as goal
use Rattle.raising.proofs.noting.last_noted.Goals.{then-is_noted, else-is_noted}

pub loop-k-init : goal.loop-k-init
loop-k-init c = last_begun c.args.parts.now c.args.i

pub loop-k-preserved : goal.loop-k-preserved
loop-k-preserved c =
    let l = c.loop-k in
    let parts = c.args.parts.now in
    elim c.if-is_noted.branch [
      | then-is_noted w ↦ rw w.last-is (last_here parts c.args.i l.k l.last c.loop-k-test.true (sym c.is_noted.ensures ∙ w.if-is_noted.true) l.invariant)
      | else-is_noted w ↦ rw w.last-is (last_kept parts c.args.i l.k l.last c.loop-k-test.true (sym c.is_noted.ensures ∙ w.if-is_noted.false) l.invariant)
    ]

pub returns : goal.returns
returns c = let l = c.loop-k in record {
  last = last_end c.args.parts.now c.args.i l.k l.last (omega (arith, c.loop-k-test.false)) l.invariant;
  within = (l.invariant.above, omega (arith, l.invariant.below, c.loop-k-test.false));
  behind = λ k h b. l.invariant.unnoted k h (omega (arith, b, c.loop-k-test.false));
}
