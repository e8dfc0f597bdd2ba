-- `tape::commands::addressed_at` meets its contract. Assumes nothing.
use native.Mathlib.Omega.{arith}
use Rattle.tape.proofs.commands.Standing.{addressed-cut, addressed-whole}
use Rattle.tape.proofs.commands.addressed_at.Goals as goal

pub returns-then-tape-at : goal.returns-then-tape-at
returns-then-tape-at g c = rw c.at.ensures (addressed-cut _ _ _ c.requires.1 (omega (arith, c.if-tape-at.true, c.width_of-w.ensures.0)))

pub returns : goal.returns
returns g c = let w = c.width_of-w.ensures.0 in
    let long = c.if-tape-at.false in
    addressed-whole _ _ _ c.requires.1 (omega (arith, long, w)) (rw w at c.number_at-address.ensures) (rw w at c.from-indent.ensures)
