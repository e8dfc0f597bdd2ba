-- `numbers::parse::unnegated` meets its contract. Assumes nothing.
use Rattle.std.proofs.Common.{◌∙◌}
use Rattle.reference.specs.Text.{bytes}
use Rattle.laws.proofs.Std.{prefix-std}
use Rattle.numbers.proofs.Parsing.{after_0x, without_0x}
use Rattle.numbers.proofs.parse.unnegated.Goals as goal

pub returns-in-Some : goal.returns-in-Some
returns-in-Some c =
    let e = c.in-Some.ensures.cases in
    c.hexadecimal.ensures ∙ after_0x c.args.s.now (prefix-std c.args.s.now (bytes "0x")) e.0 e.1

pub returns-in-None : goal.returns-in-None
returns-in-None c = c.decimal.ensures ∙ without_0x c.args.s.now (prefix-std c.args.s.now (bytes "0x")) c.in-None.ensures.cases
