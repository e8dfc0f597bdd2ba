-- `usefacts::rest::mark_at` meets its contract. Assumes nothing.
use borrow.Author.Rules.{rules}
use lib.Dec.{ltb}
use Rattle.lines.proofs.words.Chains.{serves_words, position_words}
use Rattle.cautions.specs.Texts.{marks}
use Rattle.lines.specs.Texts.{token_of}
use Rattle.usefacts.proofs.rest.mark_at.Goals as goal

pub position-requires-clause-callable : goal.position-requires-clause-callable
position-requires-clause-callable c = serves_words c.requires (cc) (λ x q k. search rules) (λ x p. search rules)

pub returns : goal.returns
returns c =
    let a = c.args in
    position_words (λ t. ltb 0 (marks t)) (token_of a.texts.now) a.line.now _ _ _ c.position.ensures.ran (cc) (λ x b q k. search rules)
