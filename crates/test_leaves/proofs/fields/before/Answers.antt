-- `test_leaves::fields::before` meets its contract. Assumes nothing.
use mathlib.Core.Path.{sym, ◌∙◌}
use native.Mathlib.Omega.{arith}
use lib.Seq.{length-take-le}
use Rattle.test_leaves.proofs.Separators.{before-length, take-before, place_is}
use Rattle.test_leaves.proofs.fields.before.Goals as goal

pub slice_bounds-result-end : goal.slice_bounds-result-end
slice_bounds-result-end c =
    let a = c.args in
    sym (length-take-le _ _ (omega (arith, (c.count_before.ensures ∙ sym (place_is c.args.s.now c.args.b)), before-length a.b a.s.now)))

pub returns : goal.returns
returns c =
    let a = c.args in
    rw (c.count_before.ensures ∙ sym (place_is c.args.s.now c.args.b)) (take-before a.b a.s.now)
