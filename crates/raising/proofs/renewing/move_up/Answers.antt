-- `raising::renewing::move_up` meets its contract. Assumes nothing.
use native.Mathlib.Omega.{arith}
use mathlib.Core.Path.{◌≡◌, ap, ◌∙◌}
use Prim.Native.Nat.{◌+◌}
use Rattle.std.specs.List.{copy_within}
use Rattle.raising.proofs.Moving.{none_moved, one-more}
use Rattle.raising.proofs.renewing.move_up.Goals as goal

pub loop-k-init : goal.loop-k-init
loop-k-init g c = none_moved c.args.items.now c.args.i

pub loop-k-preserved : goal.loop-k-preserved
loop-k-preserved g c =
    let l = c.loop-k in
    let x = c.index-items-k.result in
    one-more c.args.items.now c.args.i l.k x (omega (arith, l.auto.k)) (omega (arith, c.requires.1, c.loop-k-test.true, l.auto.items)) l.invariant c.index-items-k.is

pub returns : goal.returns
returns g c =
    let a = c.args in
    let l = c.loop-k in
    let e : l.k ≡ a.end = omega (arith, c.requires.0, c.loop-k-test.false, l.auto.k-end) in
    l.invariant ∙ ap (λ n. copy_within a.items.now (a.i + 1) n a.i) e
