-- `test_replay::frames::output_of` meets its contract. Assumes nothing.
use Rattle.test_replay.proofs.frames.output_of.Goals as goal

pub returns : goal.returns
returns c = rw (c.size_at.ensures, c.size_at-tape.ensures) at c.text_of.ensures
