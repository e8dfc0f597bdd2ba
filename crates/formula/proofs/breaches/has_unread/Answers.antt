-- `formula::breaches::has_unread` meets its contract. Assumes nothing.
use Rattle.std.proofs.Common.{rules}
use Rattle.lines.specs.Texts.{token_of}
use Rattle.lines.proofs.words.Chains.{serves_words, any_words}
use Rattle.formula.specs.Breaches.{is_unread}
use Rattle.formula.proofs.breaches.has_unread.Goals as goal

pub any-requires-clause-callable : goal.any-requires-clause-callable
any-requires-clause-callable c = serves_words c.requires.holds (cc) (λ x q k. search rules) (λ x p. search rules)

pub returns : goal.returns
returns c =
    let a = c.args.line.now in
    any_words is_unread (token_of a.texts) a.words.now _ _ _ c.any.ensures.ran (cc) (λ x b q k. search rules)
