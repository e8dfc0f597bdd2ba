-- `raising::renewing::hand_on` meets its contract. Assumes nothing.
use native.Mathlib.Omega.{arith}
use Rattle.raising.proofs.renewing.hand_on.Goals as goal

pub returns : goal.returns
returns c = (let v = rw (c.move_up.ensures, c.move_up-2.ensures, c.uses_kinds.ensures) at c.renew_lines.ensures in v)
