-- `test_replay::calls::agrees_in` meets its contract. Assumes nothing.
use native.Mathlib.Omega.{arith}
use mathlib.Core.Path.{sym}
use lib.Seq.{length-take-le}
use Rattle.test_replay.proofs.Calling.{short_a, short_b, short_o, made}
use Rattle.test_replay.proofs.calls.agrees_in.Goals as goal

pub returns-then-work_a-a : goal.returns-then-work_a-a
returns-then-work_a-a c = short_a _ _ _ _ (omega (arith, c.size_at-a.ensures))

pub returns-then-work_b-b : goal.returns-then-work_b-b
returns-then-work_b-b c = short_b _ _ _ _ (omega (arith, c.size_at-a.ensures)) (omega (arith, c.size_at-b.ensures))

pub returns-then-out-o : goal.returns-then-out-o
returns-then-out-o c = short_o _ _ _ _ (omega (arith, c.size_at-a.ensures)) (omega (arith, c.size_at-b.ensures)) (omega (arith, c.size_at-o.ensures))

pub slice_bounds-clean-end-2 : goal.slice_bounds-clean-end-2
slice_bounds-clean-end-2 c = sym (length-take-le _ _ (omega arith))

pub slice_bounds-clean-end-4 : goal.slice_bounds-clean-end-4
slice_bounds-clean-end-4 c = sym (length-take-le _ _ (omega arith))

pub slice_bounds-clean-end-6 : goal.slice_bounds-clean-end-6
slice_bounds-clean-end-6 c = sym (length-take-le _ _ (omega arith))

pub returns : goal.returns
returns c =
    made _ _ _ _ c.size_at-a.ensures c.size_at-b.ensures
    c.size_at-o.ensures c.settings-rules.ensures c.tape_of.ensures (omega arith) (omega arith) (omega arith)
    c.clean-r.ensures.cleans c.is_right.ensures
