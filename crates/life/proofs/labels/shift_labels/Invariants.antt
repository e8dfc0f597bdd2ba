-- What the loop of `life::labels::shift_labels` keeps true: the places so far are shifted. Assumes nothing.
use Rattle.std.proofs.Common.{◌≡◌, ◌++◌, map, take, drop}
use Rattle.joining.specs.Places.{shift_place}
use Rattle.life.proofs.labels.shift_labels.Given as goal

abbrev pub invariant-loop-place : goal.invariant-loop-place
invariant-loop-place l = l.labels ≡ map (shift_place l.i) (take l.place-index l.initial.labels) ++ drop l.place-index l.initial.labels
