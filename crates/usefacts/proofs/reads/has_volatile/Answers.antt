-- `usefacts::reads::has_volatile` meets its contract. Assumes nothing.
use borrow.Author.Rules.{rules}
use Rattle.reference.specs.Rules.{volatile}
use Rattle.lines.proofs.words.Chains.{serves_words, any_words}
use Rattle.cautions.specs.Values.{is_volatile}
use Rattle.ground.specs.Rules.{rules_of}
use Rattle.lines.specs.Texts.{token_of}
use Rattle.usefacts.proofs.reads.has_volatile.Goals as goal

pub any-requires-clause-callable : goal.any-requires-clause-callable
any-requires-clause-callable c = serves_words c.requires (cc) (λ x q k. search rules) (λ x p. search rules)

pub returns : goal.returns
returns c =
    let a = c.args in
    any_words (is_volatile (volatile (rules_of a.rules))) (token_of a.texts.now) a.ws.now _ _ _ c.any.ensures.ran (cc) (λ x b q k. search rules)
