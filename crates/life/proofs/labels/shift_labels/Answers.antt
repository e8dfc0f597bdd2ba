-- `life::labels::shift_labels` meets its contract. Assumes nothing.
use native.Mathlib.Omega.{arith}
use Rattle.joining.specs.Places.{shift_place}
use Rattle.life.proofs.Places.{mapped_next}
use Rattle.life.proofs.labels.shift_labels.Goals as goal

pub loop-place-preserved : goal.loop-place-preserved
loop-place-preserved c = mapped_next (shift_place c.args.i) _ c.loop-place.place-index c.loop-place.invariant (omega arith) c.shifted.ensures
