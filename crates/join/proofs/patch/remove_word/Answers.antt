-- `join::patch::remove_word` meets its contract. Assumes nothing.
use native.Mathlib.Omega.{arith}
use Rattle.join.proofs.Removing.{remove_begin, remove-step, remove_end}
use Rattle.join.proofs.patch.remove_word.Goals as goal

pub loop-k-init : goal.loop-k-init
loop-k-init c = remove_begin c.args.lines.now c.args.gone c.requires

pub loop-k-preserved : goal.loop-k-preserved
loop-k-preserved c =
    let l = c.loop-k in
    remove-step c.args.lines.now c.args.gone c.requires l.auto.k (omega (arith, c.loop-k-test.true, l.auto.lines)) l.invariant

pub returns : goal.returns
returns c =
    let a = c.args in
    let l = c.loop-k in
    remove_end a.lines.now a.gone c.requires (omega (arith, c.requires, l.auto.k-end)) (omega (arith, c.requires, c.loop-k-test.false)) l.invariant
