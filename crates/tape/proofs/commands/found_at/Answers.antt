-- `tape::commands::found_at` meets its contract. Assumes nothing.
use native.Mathlib.Omega.{arith}
use mathlib.Core.Path.{sym, ◌∙◌}
use Rattle.tape.proofs.commands.Standing.{no_byte, no_command, ending}
use Rattle.tape.proofs.commands.found_at.Goals as goal

pub returns-then-tape-at : goal.returns-then-tape-at
returns-then-tape-at g c = rw c.at.ensures (no_byte _ _ _ c.if-tape-at.true)

pub returns-in-255 : goal.returns-in-255
returns-in-255 g c = ending _ _ _ c.if-tape-at.false c.in-255.is

pub returns-in_default-3 : goal.returns-in_default-3
returns-in_default-3 g c =
    rw c.at-in_default-3.ensures
    (no_command _ _ _
    (λ e. c.if-b-line_byte.false (e ∙ sym c.line_byte.ensures))
    (λ e. omega arith)
    (λ e. c.if-b-marks_byte.false (e ∙ sym c.marks_byte.ensures))
    (λ e. omega arith)
    (λ low high. omega arith))
