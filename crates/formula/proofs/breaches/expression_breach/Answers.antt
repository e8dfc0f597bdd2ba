-- `formula::breaches::expression_breach` meets its contract. Assumes nothing.
use Rattle.std.proofs.Common.{sym, ◌∙◌}
use Rattle.formula.specs.Line.{tokens_of}
use Rattle.formula.specs.Breaches.{token_tests, whole_tests}
use Rattle.formula.proofs.Testing.{then_first, then_rest}
use Rattle.formula.proofs.breaches.expression_breach.Goals as goal

pub returns-in-Some : goal.returns-in-Some
returns-in-Some c =
    let ts = tokens_of c.args.line.now in
    sym (then_first (token_tests ts) (whole_tests c.args.last ts) _ (sym c.token_breach.ensures ∙ c.in-Some.is))

pub returns-in-None : goal.returns-in-None
returns-in-None c =
    let ts = tokens_of c.args.line.now in
    c.whole_breach.ensures ∙ sym (then_rest (token_tests ts) (whole_tests c.args.last ts) (sym c.token_breach.ensures ∙ c.in-None.is))
