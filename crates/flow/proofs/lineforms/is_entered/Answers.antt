-- `flow::lineforms::is_entered` meets its contract. Assumes nothing.
use borrow.Author.Rules.{rules}
use mathlib.Core.Path.{◌∙◌}
use Rattle.lines.proofs.words.Chains.{serves_words, any_words}
use Rattle.lines.specs.Texts.{token_of, tokens_of}
use Rattle.flow.specs.LineForms.{is_entering}
use Rattle.flow.proofs.Classes.{entered}
use Rattle.flow.proofs.lineforms.is_entered.Goals as goal

pub any-requires-clause-callable : goal.any-requires-clause-callable
any-requires-clause-callable c = serves_words c.requires (cc) (λ x q k. search rules) (λ x p. search rules)

pub returns : goal.returns
returns c =
    let a = c.args in
    any_words is_entering (token_of a.texts.now) a.line.now _ _ _ c.any.ensures.ran (cc) (λ x b q k. search rules) ∙ entered (tokens_of a.texts.now a.line.now)
