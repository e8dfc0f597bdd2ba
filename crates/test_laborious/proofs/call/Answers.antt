-- `test_laborious::call` is safe. Assumes nothing.
use native.Mathlib.Omega.{arith}
use mathlib.Core.Path.{sym}
use lib.Seq.{length-take-le}
use Rattle.test_laborious.proofs.call.Goals as goal

pub slice_bounds-laborious-end-2 : goal.slice_bounds-laborious-end-2
slice_bounds-laborious-end-2 c = sym (length-take-le _ _ (omega arith))
