-- What falls at each turn of the loop of `test_states::run`: each frame has bytes.
use lib.ListN.{length}
use Rattle.test_states.proofs.run.Given as goal

abbrev pub decreases-loop-frame : goal.decreases-loop-frame
decreases-loop-frame l = length l.left
