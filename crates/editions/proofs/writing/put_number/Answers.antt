-- `editions::writing::put_number` meets its contract. Assumes nothing.
use native.Mathlib.Omega.{arith}
use borrow.Author.Rules.{rules}
use Rattle.editions.proofs.Copying.{number-room, number_puts}
use Rattle.editions.proofs.writing.put_number.Goals as goal

pub put_token-requires : goal.put_token-requires
put_token-requires c = (omega arith, number-room c.new-down.ensures.from c.put_down.ensures (search rules) c.args.out.now c.requires.2)

pub returns : goal.returns
returns c = number_puts c.new-down.ensures.from c.put_down.ensures (search rules) c.put_token.ensures
