-- `flow::opaque::register_call_at` meets its contract. Assumes nothing.
use borrow.Author.Rules.{rules}
use Rattle.cautions.specs.Texts.{calls_register}
use Rattle.lines.proofs.words.Chains.{serves_pairs, position_pairs}
use Rattle.lines.specs.Texts.{token_of}
use Rattle.flow.proofs.opaque.register_call_at.Goals as goal

pub position-requires-clause-callable : goal.position-requires-clause-callable
position-requires-clause-callable c = serves_pairs c.requires (cc) (cc) (λ x q k. search rules) (λ x l p q. search rules)

pub returns : goal.returns
returns c = let a = c.args in position_pairs calls_register (token_of a.texts.now) a.line.now _ _ _ c.position.ensures.ran (cc) (cc) (λ x b q k. search rules)
