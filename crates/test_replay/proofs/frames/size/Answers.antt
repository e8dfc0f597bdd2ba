-- `test_replay::frames::size` meets its contract. Assumes nothing.
use native.Mathlib.Omega.{arith}
use mathlib.Core.Path.{sym}
use Rattle.test_replay.proofs.Framing.{cut_off}
use Rattle.test_replay.proofs.frames.size.Goals as goal

pub returns-then-list-lt-HEADER : goal.returns-then-list-lt-HEADER
returns-then-list-lt-HEADER c = sym (cut_off _ (omega arith))

pub returns-then-left-tape : goal.returns-then-left-tape
returns-then-left-tape c = sym (cut_off _ (omega arith))

pub returns-then-left-tape-2 : goal.returns-then-left-tape-2
returns-then-left-tape-2 c = sym (cut_off _ (omega arith))
