-- `tape::questions::ask_line` meets its contract. Assumes nothing.
use Prim.Native.Nat.{◌+◌}
use native.Mathlib.Omega.{arith}
use borrow.Author.Tests.{le-leb, lt-leb}
use Rattle.reference.specs.Control.{when◌then◌else◌}
use Rattle.reference.specs.Questions.{has_line, is_within, is_few, is_short, is_printable, is_over, place_at, ask}
use Rattle.tape.proofs.questions.ask_line.Goals as goal

pub returns-then-indent-gt63 : goal.returns-then-indent-gt63
unfolding ask has_line is_within place_at when◌then◌else◌
returns-then-indent-gt63 c = rw (c.at.ensures, lt-leb c.args.indent 63 c.if-indent-gt63.true)

pub returns-then-totals-ge256 : goal.returns-then-totals-ge256
unfolding ask has_line is_within is_few place_at when◌then◌else◌
returns-then-totals-ge256 c = let a = c.args in
    rw (c.at-then-totals-ge256.ensures, le-leb a.indent 63 c.if-indent-gt63.false, lt-leb (a.totals.lines + 1) 256 (omega arith))

pub returns : goal.returns
unfolding ask has_line is_within is_few is_short is_printable is_over when◌then◌else◌
returns c = let a = c.args in rw (le-leb a.indent 63 c.if-indent-gt63.false, le-leb (a.totals.lines + 1) 256 (omega arith))
