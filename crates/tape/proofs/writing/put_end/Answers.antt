-- `tape::writing::put_end` meets its contract. Assumes nothing.
use Rattle.reference.specs.Tape.{write_command_by}
use Rattle.tape.proofs.writing.put_end.Goals as goal

pub returns : goal.returns
unfolding write_command_by
returns c = c.put_byte.ensures
