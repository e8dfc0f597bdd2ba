-- `tape::questions::offends` meets its contract. Assumes nothing.
use Rattle.std.proofs.Common.{rules}
use borrow.Author.Tests.{tests}
use Rattle.reference.specs.Control.{◌or◌}
use Rattle.tape.proofs.questions.offends.Goals as goal

pub returns : goal.returns
unfolding ◌or◌
returns c = search (rules, tests)
