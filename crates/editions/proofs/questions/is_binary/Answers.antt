-- `editions::questions::is_binary` meets its contract. Assumes nothing.
use Rattle.reference.specs.Text.{bytes}
use Rattle.laws.proofs.Std.{prefix-std}
use Rattle.editions.proofs.Asking.{binary-plain, binary-minus}
use Rattle.editions.proofs.questions.is_binary.Goals as goal

pub returns-in-Some : goal.returns-in-Some
returns-in-Some c =
    let e = c.in-Some.ensures.cases in
    binary-minus c.args.s.now (prefix-std c.args.s.now (bytes "-")) e.0 e.1 c.begins_binary.ensures

pub returns-in-None : goal.returns-in-None
returns-in-None c = binary-plain c.args.s.now (prefix-std c.args.s.now (bytes "-")) c.in-None.ensures.cases c.begins_binary-in-None.ensures
