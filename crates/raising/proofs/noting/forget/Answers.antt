-- `raising::noting::forget` meets its contract. Assumes nothing.
use native.Mathlib.Omega.{arith}
use mathlib.Core.Path.{◌≡◌, refl, ◌∙◌, subst}
use Prim.Native.Nat.{ℕ}
use lib.ListN.{length-set}
use Rattle.std.proofs.Common.{None}
use Rattle.raising.specs.Noting.{Forgotten}
use Rattle.raising.proofs.Told.{forgetting_begun, forgotten_more}
use Rattle.raising.proofs.noting.forget.Goals as goal

pub loop-k-init : goal.loop-k-init
loop-k-init c = (forgetting_begun c.args.a c.args.parts.now, refl)

pub loop-k-preserved : goal.loop-k-preserved
loop-k-preserved c =
    let l = c.loop-k in
    (forgotten_more c.args.a c.args.parts.now l.k l.parts l.auto.k l.invariant.0, length-set l.parts l.k None ∙ l.invariant.1)

pub returns : goal.returns
returns c =
    let l = c.loop-k in
    let e : l.k ≡ c.args.b = omega (arith, c.loop-k-test.false, l.auto.k-end c.requires.0) in
    subst (λ (b : ℕ). Forgotten c.args.a b c.args.parts.now l.parts) e l.invariant.0
