-- `test_replay::frames::tape_of` meets its contract. Assumes nothing.
use Rattle.test_replay.proofs.frames.tape_of.Goals as goal

pub returns : goal.returns
returns c = rw c.size_at.ensures at c.text_of.ensures
