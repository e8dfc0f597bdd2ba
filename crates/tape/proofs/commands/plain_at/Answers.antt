-- `tape::commands::plain_at` meets its contract. Assumes nothing.
use Rattle.tape.proofs.commands.Standing.{plain-cut, plain-whole}
use Rattle.tape.proofs.commands.plain_at.Goals as goal

pub returns-then-tape-at-lt2 : goal.returns-then-tape-at-lt2
returns-then-tape-at-lt2 g c = rw c.at.ensures (plain-cut _ _ _ c.requires.1 c.if-tape-at-lt2.true)

pub returns : goal.returns
returns g c = plain-whole _ _ _ c.requires.1 c.if-tape-at-lt2.false c.from-indent.ensures
